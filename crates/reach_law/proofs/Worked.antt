-- Yard A and yard B of `route_law`: which missions can be driven there, and 11, 30 and 31. Assumes nothing.
use mathlib.Core.Path.{◌≡◌, refl, subst}
use mathlib.Core.List.{List, [], ◌∷◌}
use mathlib.Core.Logic.{inl, inr}
use Prim.Native.Nat.{ℕ, suc, ◌≤◌, ◌<◌}
use native.Mathlib.Omega.{arith}
use Rattle.route_law.specs.Moves.{Span, Inside, Move, next, exit, across}
use Rattle.route_law.proofs.Decided.{head, second}
use Rattle.route_law.proofs.Worked.{yard_a, yard-b, ahead, back, one_way, round_about}
use Rattle.reach_law.specs.Reach.{Chain, none, move, Onward, DriveTaken, DriveFault, no_room, no_start, no_chain}

-- ## Yard A: rows 0 and 1, along the lane and along the exit back; its checkpoint is row 1
abbrev CanA : (rows start : ℕ) → List ℕ → Type 0
CanA = DriveTaken (Move yard_a) 2

abbrev CannotA : (rows start : ℕ) → List ℕ → (line number : ℕ) → Type 0
CannotA = DriveFault (Move yard_a) 2

pub straight : CanA 2 0 (1 ∷ [])
straight = record { room = omega arith; declared = omega arith; drivable = (move ahead none, tt) }

-- "by no move or more": the start is the first goal
pub at_the-start : CanA 2 1 (1 ∷ [])
at_the-start = record { room = omega arith; declared = omega arith; drivable = (none, tt) }

-- "by one move or more": a goal that comes again needs a round
pub once-round : CanA 3 1 (1 ∷ 1 ∷ [])
once-round = record { room = omega arith; declared = omega arith; drivable = (none, (record { by = 0; first = back; rest = move ahead none }, tt)) }

-- 11 before 30: the start is none either
pub no_rows : CannotA 1 2 (1 ∷ []) 0 11
no_rows = no_room (λ h. omega arith)

pub undeclared : CannotA 2 2 (1 ∷ []) 0 30
undeclared = no_start (omega arith) (λ h. omega arith)

-- ## Yard B: lanes 0, 1 and 2, 3, exits from 1 to 3 and from 3 to 3; a zone of rows 4 to 7
abbrev CannotB : (start : ℕ) → List ℕ → (line number : ℕ) → Type 0
CannotB = DriveFault (Move yard-b) 8 8

-- what is inside a span that is this one is inside this one
in-this : (s t : Span) (p : ℕ) → s ≡ t → Inside s p → Inside t p
in-this s t p e = subst (λ (z : Span). Inside z p) e

-- from row 3 there is only the way to itself
stays : (b : ℕ) → Move yard-b 3 b → b ≡ 3
stays b (next lane (inl i) x y e) = absurd (let h = (in-this lane (record { first = 0; size = 2 }) 3 i x).below in omega arith)
stays b (next lane (inr (inl i)) x y e) = absurd (let h = (in-this lane (record { first = 2; size = 2 }) b i y).below in omega arith)
stays b (next lane (inr (inr i)) x y e) = absurd i
stays b (exit (inl e)) = absurd (let h : ◌≡◌ {A = ℕ} 3 1 = (λ i. head (e i)) in omega arith)
stays b (exit (inr (inl e))) = λ i. second (e i)
stays b (exit (inr (inr h))) = absurd h
stays b (across zone (inl i) x y e) = absurd (let h = (in-this zone (record { first = 4; size = 4 }) 3 i x).from in omega arith)
stays b (across zone (inr i) x y e) = absurd i

only_there : {a c : ℕ} → Chain (Move yard-b) a c → a ≡ 3 → c ≡ 3
only_there none e = e
only_there {a} {c} (move {b = b} m rest) e = only_there rest (stays b (subst (λ z. Move yard-b z b) e m))

-- "31 a goal that can't be reached, its row": the goal at row 1 of the mission, where the third could be reached again
pub not_back : CannotB 0 (3 ∷ 0 ∷ 3 ∷ []) 1 31
not_back = no_chain (3 ∷ []) 0 (3 ∷ []) (omega arith) (omega arith) refl (move start-on (move one_way none), tt) (λ d. let o = d.1.0 in let e : ◌≡◌ {A = ℕ} 0 3 = only_there o.rest (stays o.by o.first) in omega arith)
  where
    start-on : Move yard-b 0 1
    start-on = next (record { first = 0; size = 2 }) (inl refl) (record { from = omega arith; below = omega arith }) (record { from = omega arith; below = omega arith }) refl

-- the first goal of all: row 0
pub not-at-first : CannotB 3 (0 ∷ []) 0 31
not-at-first = no_chain [] 0 [] (omega arith) (omega arith) refl tt (λ d. let e : ◌≡◌ {A = ℕ} 0 3 = only_there d.0 refl in omega arith)

-- a goal that comes again, where no way leads back to it
pub no-round : CannotB 1 (1 ∷ 1 ∷ []) 1 31
no-round = no_chain (1 ∷ []) 1 [] (omega arith) (omega arith) refl (none, tt) (λ d. let o = d.1.0 in let e : ◌≡◌ {A = ℕ} 1 3 = only_there o.rest (onward o.by o.first) in omega arith)
  where
    onward : (b : ℕ) → Move yard-b 1 b → b ≡ 3
    onward b (next lane (inl i) x y e) = absurd (let h = (in-this lane (record { first = 0; size = 2 }) b i y).below in omega arith)
    onward b (next lane (inr (inl i)) x y e) = absurd (let h = (in-this lane (record { first = 2; size = 2 }) 1 i x).from in omega arith)
    onward b (next lane (inr (inr i)) x y e) = absurd i
    onward b (exit (inl e)) = λ i. second (e i)
    onward b (exit (inr (inl e))) = absurd (let h : ◌≡◌ {A = ℕ} 1 3 = (λ i. head (e i)) in omega arith)
    onward b (exit (inr (inr h))) = absurd h
    onward b (across zone (inl i) x y e) = absurd (let h = (in-this zone (record { first = 4; size = 4 }) 1 i x).from in omega arith)
    onward b (across zone (inr i) x y e) = absurd i

-- an exit to itself makes a round
pub round-at-once : DriveTaken (Move yard-b) 8 8 3 (3 ∷ 3 ∷ [])
round-at-once = record { room = omega arith; declared = omega arith; drivable = (none, (record { by = 3; first = round_about; rest = none }, tt)) }
