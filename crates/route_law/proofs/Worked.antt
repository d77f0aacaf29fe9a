-- Small yards: which steps are moves, and yard A's routes: good ones, and some with each of 21 to 24. Assumes nothing.
use mathlib.Core.Path.{◌≡◌, refl, subst}
use mathlib.Core.List.{List, [], ◌∷◌}
use mathlib.Core.Logic.{inl, inr}
use mathlib.Core.Option.{none, some}
use Prim.Native.Nat.{ℕ, ◌≤◌, ◌<◌}
use native.Mathlib.Omega.{arith}
use lib.IntN.{pos}
use Rattle.terms.specs.Ascii.{ascii}
use Rattle.line.specs.Line.{Field}
use Rattle.law.specs.Network.{PointId, Position, Exit, Lane, Zone, Network, Mission}
use Rattle.route_law.specs.Moves.{Span, Inside, Move, next, exit, across, points_declared, GoalPoints}
use Rattle.route_law.specs.Routes.{Earliest, Taken, one, BeginsAtStart, GoodRoute, RouteFault, no_beginning, no_move, not_met, wrong_end}
use Rattle.route_law.specs.Routes as Routes
use Rattle.route_law.proofs.Places.{stepwise_moves, not-from-end, not-from-here, not-from-behind, earliest-here, earliest-later, earliest-behind}
use Rattle.route_law.proofs.Decided.{absent, ways}

-- where its points stand on earth does not matter
abbrev somewhere : Position
somewhere = record { latitude = pos 0; longitude = pos 0 }

abbrev to_point : (x y z : ℕ) → PointId
to_point x y z = record { x = x; y = y; z = z }

-- a lane of two points
abbrev two-points : List Exit → Lane
two-points exits = record { width = none; left = none; right = none; checkpoints = record { waypoint = 2; number = 7 } ∷ []; stops = []; exits = exits; points = somewhere ∷ somewhere ∷ [] }

abbrev network_of : List Lane → List (Zone Field) → Network Field
network_of lanes zones = record { name = record { start = 10; bytes = ascii "yard_a" }; version = none; date = none; segments = record { name = none; lanes = lanes } ∷ []; zones = zones }

-- ## Yard A: rows 0 and 1, an exit from 1 to 0, checkpoint 7 at row 1
abbrev pub yard_a : Network Field
yard_a = network_of (two-points (record { waypoint = 2; entry = to_point 1 1 1 } ∷ []) ∷ []) []

abbrev mission-of : List ℕ → Mission Field
mission-of goals = record { name = record { start = 9; bytes = ascii "round_1" }; rndf = record { start = 22; bytes = ascii "yard_a" }; version = none; date = none; goals = goals; limits = record { id = 1; minimum = 0; maximum = 15 } ∷ [] }

pub its-points : points_declared yard_a ≡ 2
its-points = refl

pub its-goal : GoalPoints yard_a (mission-of (7 ∷ [])) (1 ∷ [])
its-goal = (inl refl, tt)

pub its-goal-twice : GoalPoints yard_a (mission-of (7 ∷ 7 ∷ [])) (1 ∷ 1 ∷ [])
its-goal-twice = (inl refl, (inl refl, tt))

-- along the lane, and along the exit back
pub ahead : Move yard_a 0 1
ahead = next (record { first = 0; size = 2 }) (inl refl) (record { from = omega arith; below = omega arith }) (record { from = omega arith; below = omega arith }) refl

pub back : Move yard_a 1 0
back = exit (inl refl)

pub no-stay : Move yard_a 0 0 → ⊥
no-stay (next lane i a b e) = omega arith
no-stay (exit h) = absent 0 0 (ways yard_a) h refl
no-stay (across zone i a b e) = i

pub no_third : Move yard_a 0 2 → ⊥
no_third (next lane i a b e) = omega arith
no_third (exit h) = absent 0 2 (ways yard_a) h refl
no_third (across zone i a b e) = i

-- ## Its routes, from a start along a route to the goals' points
abbrev Good : (start : ℕ) → (route goals : List ℕ) → Type 0
Good = GoodRoute 2 (Move yard_a)

abbrev Bad : (start : ℕ) → (route goals : List ℕ) → (line number : ℕ) → Type 0
Bad = RouteFault 2 (Move yard_a)

begun_0 : (l : List ℕ) → BeginsAtStart 2 (Move yard_a) 0 (0 ∷ l)
begun_0 l = record { declared = omega arith; there = refl }

begun_1 : (l : List ℕ) → BeginsAtStart 2 (Move yard_a) 1 (1 ∷ l)
begun_1 l = record { declared = omega arith; there = refl }

zero-not-one : ◌≡◌ {A = ℕ} 1 0 → ⊥
zero-not-one e = omega arith

pub straight : Good 0 (0 ∷ 1 ∷ []) (1 ∷ [])
straight = record { begins = begun_0 (1 ∷ []); moves = stepwise_moves (Move yard_a) (0 ∷ 1 ∷ []) 2 (ahead, tt); met = record { places = 1 ∷ []; met = (refl, tt); rising = tt }; ends = record { end = 1; of_route = refl; of_goals = refl } }

-- "The start itself may meet the first goal."
pub at_the-start : Good 1 (1 ∷ []) (1 ∷ [])
at_the-start = record { begins = begun_1 []; moves = stepwise_moves (Move yard_a) (1 ∷ []) 1 tt; met = record { places = 0 ∷ []; met = (refl, tt); rising = tt }; ends = record { end = 1; of_route = refl; of_goals = refl } }

-- it may go on past the goal and come back
pub once-round : Good 0 (0 ∷ 1 ∷ 0 ∷ 1 ∷ []) (1 ∷ [])
once-round = record { begins = begun_0 (1 ∷ 0 ∷ 1 ∷ []); moves = stepwise_moves (Move yard_a) (0 ∷ 1 ∷ 0 ∷ 1 ∷ []) 4 (ahead, (back, (ahead, tt))); met = record { places = 1 ∷ []; met = (refl, tt); rising = tt }; ends = record { end = 1; of_route = refl; of_goals = refl } }

pub twice-met : Good 1 (1 ∷ 0 ∷ 1 ∷ []) (1 ∷ 1 ∷ [])
twice-met = record { begins = begun_1 (0 ∷ 1 ∷ []); moves = stepwise_moves (Move yard_a) (1 ∷ 0 ∷ 1 ∷ []) 3 (back, (ahead, tt)); met = record { places = 0 ∷ 2 ∷ []; met = (refl, (refl, tt)); rising = (omega arith, tt) }; ends = record { end = 1; of_route = refl; of_goals = refl } }

-- 21
pub empty : Bad 0 [] (1 ∷ []) 0 21
empty = no_beginning (λ b. b.there)

pub elsewhere : Bad 0 (1 ∷ []) (1 ∷ []) 0 21
elsewhere = no_beginning (λ b. let e : ◌≡◌ {A = ℕ} 0 1 = b.there in omega arith)

pub undeclared : Bad 2 (2 ∷ []) (1 ∷ []) 0 21
undeclared = no_beginning (λ b. let h = b.declared in omega arith)

-- 22: the place that the step leads to, also where the goal is met, or not met, behind it
pub staying : Bad 0 (0 ∷ 0 ∷ 1 ∷ []) (1 ∷ []) 1 22
staying = no_move 0 0 0 (begun_0 (0 ∷ 1 ∷ [])) (λ i a b l x y. absurd (omega arith)) refl refl no-stay

pub beyond : Bad 0 (0 ∷ 2 ∷ []) (1 ∷ []) 1 22
beyond = no_move 0 0 2 (begun_0 (2 ∷ [])) (λ i a b l x y. absurd (omega arith)) refl refl no_third

-- 23: the goal's row
pub unmet : Bad 0 (0 ∷ []) (1 ∷ []) 0 23
unmet = not_met [] 1 [] 0 (begun_0 []) (stepwise_moves (Move yard_a) (0 ∷ []) 1 tt) refl Routes.none (not-from-here 0 1 [] zero-not-one (not-from-end 0 1))

-- one place meets one goal
pub met-once : Bad 1 (1 ∷ []) (1 ∷ 1 ∷ []) 1 23
met-once = not_met (1 ∷ []) 1 [] 1 (begun_1 []) (stepwise_moves (Move yard_a) (1 ∷ []) 1 tt) refl (one (earliest-here 1 1 [] refl) Routes.none) (not-from-behind 1 1 0 [] (not-from-end 0 1))

-- 23 before 24
pub unmet-and-wrong-end : Bad 1 (1 ∷ 0 ∷ []) (1 ∷ 1 ∷ []) 1 23
unmet-and-wrong-end = not_met (1 ∷ []) 1 [] 1 (begun_1 (0 ∷ [])) (stepwise_moves (Move yard_a) (1 ∷ 0 ∷ []) 2 (back, tt)) refl (one (earliest-here 1 1 (0 ∷ []) refl) Routes.none)
    (not-from-behind 1 1 0 (0 ∷ []) (not-from-here 0 1 [] zero-not-one (not-from-end 0 1)))

-- 24
pub past_the-goal : Bad 0 (0 ∷ 1 ∷ 0 ∷ []) (1 ∷ []) 0 24
past_the-goal = wrong_end 2 (begun_0 (1 ∷ 0 ∷ [])) (stepwise_moves (Move yard_a) (0 ∷ 1 ∷ 0 ∷ []) 3 (ahead, (back, tt))) (one (earliest-later 0 1 0 (1 ∷ 0 ∷ []) zero-not-one (earliest-here 1 1 (0 ∷ []) refl)) Routes.none)
    (λ x. let e : x.end ≡ 0 = x.of_route in let f : x.end ≡ 1 = x.of_goals in omega arith)

-- ## Two lanes, rows 0, 1 and 2, 3, with an exit from 1 to 3 and one from 3 to itself; and a zone of a perimeter of two points, rows 4 and 5, and a spot, rows 6 and 7
abbrev pub yard-b : Network Field
yard-b = network_of (two-points (record { waypoint = 2; entry = to_point 1 2 2 } ∷ []) ∷ two-points (record { waypoint = 2; entry = to_point 1 2 2 } ∷ []) ∷ [])
    (record { name = none; border = record { exits = []; points = somewhere ∷ somewhere ∷ [] }; spots = record { width = none; checkpoint = none; first = somewhere; second = somewhere } ∷ [] } ∷ [])

abbrev span : (first size : ℕ) → Span
span first size = record { first = first; size = size }

-- what is inside a span that is this one is inside this one
in-this : (s t : Span) (p : ℕ) → s ≡ t → Inside s p → Inside t p
in-this s t p e = subst (λ (z : Span). Inside z p) e

-- from a lane's last waypoint to the next lane's first
pub not-past_the-end : Move yard-b 1 2 → ⊥
not-past_the-end (next lane (inl i) a b e) = let h = (in-this lane (span 0 2) 2 i b).below in omega arith
not-past_the-end (next lane (inr (inl i)) a b e) = let h = (in-this lane (span 2 2) 1 i a).from in omega arith
not-past_the-end (next lane (inr (inr i)) a b e) = i
not-past_the-end (exit h) = absent 1 2 (ways yard-b) h refl
not-past_the-end (across zone (inl i) a b e) = let h = (in-this zone (span 4 4) 1 i a).from in omega arith
not-past_the-end (across zone (inr i) a b e) = i

-- an exit one way
pub one_way : Move yard-b 1 3
one_way = exit (inl refl)

pub not_back : Move yard-b 3 1 → ⊥
not_back (next lane i a b e) = omega arith
not_back (exit h) = absent 3 1 (ways yard-b) h refl
not_back (across zone (inl i) a b e) = let h = (in-this zone (span 4 4) 3 i a).from in omega arith
not_back (across zone (inr i) a b e) = i

-- an exit to itself is a move, a zone's point to itself is none
pub round_about : Move yard-b 3 3
round_about = exit (inr (inl refl))

in-zone : (p : ℕ) → 4 ≤ p → p < 8 → Inside (span 4 4) p
in-zone p low high = record { from = low; below = high }

pub to_the-spot : Move yard-b 4 7
to_the-spot = across (span 4 4) (inl refl) (in-zone 4 (omega arith) (omega arith)) (in-zone 7 (omega arith) (omega arith)) (λ e. omega arith)

pub from_the-spot : Move yard-b 7 5
from_the-spot = across (span 4 4) (inl refl) (in-zone 7 (omega arith) (omega arith)) (in-zone 5 (omega arith) (omega arith)) (λ e. omega arith)

pub not-staying : Move yard-b 4 4 → ⊥
not-staying (next lane i a b e) = omega arith
not-staying (exit h) = absent 4 4 (ways yard-b) h refl
not-staying (across zone i a b e) = e refl

-- there is no point behind the last
pub not-behind_the-last : Move yard-b 7 8 → ⊥
not-behind_the-last (next lane (inl i) a b e) = let h = (in-this lane (span 0 2) 8 i b).below in omega arith
not-behind_the-last (next lane (inr (inl i)) a b e) = let h = (in-this lane (span 2 2) 8 i b).below in omega arith
not-behind_the-last (next lane (inr (inr i)) a b e) = i
not-behind_the-last (exit h) = absent 7 8 (ways yard-b) h refl
not-behind_the-last (across zone (inl i) a b e) = let h = (in-this zone (span 4 4) 8 i b).below in omega arith
not-behind_the-last (across zone (inr i) a b e) = i
