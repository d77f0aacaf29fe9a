-- The points of a mission's goals, where the goals are checkpoints of the network and its checkpoint numbers differ: these points there are (`goals_of`), and no others (`goals-one`). Assumes nothing.
use mathlib.Core.Path.{◌≡◌, refl, sym, ap, subst, ◌∙◌}
use mathlib.Core.List.{List, [], ◌∷◌, ◌++◌, map}
use mathlib.Core.Logic.{inl, inr}
use Prim.Native.Nat.{ℕ, suc, ◌+◌}
use lib.ListN.{length}
use Rattle.terms.specs.Words.{Among, Each, perhaps}
use Rattle.line.specs.Line.{Field}
use Rattle.law.specs.Network.{Checkpoint, Network, Mission}
use Rattle.law.specs.Tables.{gather, lane_size, zone_size, the_row_of, all_lanes, first_zone_point, checkpoint_rows}
use Rattle.law.specs.Along.{along, over_spots}
use Rattle.law.specs.Faults.{Different, all_numbers}
use Rattle.look_up.specs.Listed.{Paired}
use Rattle.route_law.specs.Moves.{GoalPoints}
use Rattle.route_law.proofs.Decided.{head, second}

-- ## The numbers of the checkpoint rows are the network's checkpoint numbers
abbrev pub heads : List (List ℕ) → List ℕ
heads = map head

heads-behind : (l m : List (List ℕ)) → heads (l ++ m) ≡ heads l ++ heads m
heads-behind [] m = refl
heads-behind (a ∷ l) m = ap (head a ∷◌) (heads-behind l m)

heads-along : {A : Type 0} (size : A → ℕ) (f : ℕ → A → List (List ℕ)) (g : A → List ℕ) → ((first : ℕ) (a : A) → heads (f first a) ≡ g a) → (first : ℕ) (l : List A) → heads (along size f first l) ≡ gather g l
heads-along size f g h first [] = refl
heads-along {A} size f g h first (a ∷ l) = heads-behind (f first a) (along size f (first + size a) l) ∙ (λ i. h first a i ++ heads-along size f g h (first + size a) l i)

abbrev part-rows : ℕ → List Checkpoint → List (List ℕ)
part-rows first = map (λ c. c.number ∷ the_row_of first c.waypoint ∷ [])

heads_map : (first : ℕ) (cs : List Checkpoint) → heads (part-rows first cs) ≡ map (λ c. c.number) cs
heads_map first [] = refl
heads_map first (c ∷ cs) = ap (c.number ∷◌) (heads_map first cs)

abbrev lane_part_of : Network Field → List (List ℕ)
lane_part_of n = along lane_size (λ first a. part-rows first a.checkpoints) 0 (all_lanes n)

abbrev zone_part_of : Network Field → List (List ℕ)
zone_part_of n = along zone_size (over_spots (λ first s. part-rows first (perhaps s.checkpoint))) (first_zone_point n) n.zones

pub numbers-are : (n : Network Field) → heads (checkpoint_rows n) ≡ all_numbers n
numbers-are n = heads-behind (lane_part_of n) (zone_part_of n)
    ∙ (λ i. heads-along lane_size (λ first a. part-rows first a.checkpoints) (λ a. map (λ c. c.number) a.checkpoints) (λ first a. heads_map first a.checkpoints) 0 (all_lanes n) i
    ++ heads-along zone_size (over_spots (λ first s. part-rows first (perhaps s.checkpoint))) (λ z. gather (λ s. map (λ c. c.number) (perhaps s.checkpoint)) z.spots)
    (λ first z. heads-along (λ s. 2) (λ first s. part-rows first (perhaps s.checkpoint)) (λ s. map (λ c. c.number) (perhaps s.checkpoint)) (λ first s. heads_map first (perhaps s.checkpoint)) _ z.spots) (first_zone_point n) n.zones i)

-- ## One point for a number
among-heads : (r : List ℕ) (rows : List (List ℕ)) → Among r rows → Among (head r) (heads rows)
among-heads r [] h = h
among-heads r (s ∷ rows) (inl e) = inl (ap head e)
among-heads r (s ∷ rows) (inr h) = inr (among-heads r rows h)

one-row : (g p p' : ℕ) (rows : List (List ℕ)) → Different (heads rows) → Among (g ∷ p ∷ []) rows → Among (g ∷ p' ∷ []) rows → p ≡ p'
one-row g p p' [] d h h' = absurd h
one-row g p p' (s ∷ rows) d (inl e) (inl e') = ap second (e ∙ sym e')
one-row g p p' (s ∷ rows) d (inl e) (inr h') = absurd (d.0 (subst (λ z. Among z (heads rows)) (ap head e) (among-heads (g ∷ p' ∷ []) rows h')))
one-row g p p' (s ∷ rows) d (inr h) (inl e') = absurd (d.0 (subst (λ z. Among z (heads rows)) (ap head e') (among-heads (g ∷ p ∷ []) rows h)))
one-row g p p' (s ∷ rows) d (inr h) (inr h') = one-row g p p' rows d.1 h h'

paired-one : {A B : Type 0} (R : A → B → Type 0) → ((a : A) (b c : B) → R a b → R a c → b ≡ c) → (numbers : List A) (l m : List B) → Paired R numbers l → Paired R numbers m → l ≡ m
paired-one R o [] [] [] x y = refl
paired-one R o [] [] (b ∷ m) x y = absurd y
paired-one R o [] (a ∷ l) m x y = absurd x
paired-one R o (g ∷ gs) [] m x y = absurd x
paired-one R o (g ∷ gs) (a ∷ l) [] x y = absurd y
paired-one R o (g ∷ gs) (a ∷ l) (b ∷ m) x y = λ i. o g a b x.0 y.0 i ∷ paired-one R o gs l m x.1 y.1 i

pub goals-one : (n : Network Field) (m : Mission Field) → Different (all_numbers n) → (goals goals' : List ℕ) → GoalPoints n m goals → GoalPoints n m goals' → goals ≡ goals'
goals-one n m d = paired-one (λ g p. Among (g ∷ p ∷ []) (checkpoint_rows n)) (λ g p p'. one-row g p p' (checkpoint_rows n) (subst Different (sym (numbers-are n)) d)) m.goals

-- ## A point for every number
record Two (r : List ℕ) : Type 0 where
  pub number : ℕ
  pub point : ℕ
  pub is : r ≡ number ∷ point ∷ []

twos-behind : (l m : List (List ℕ)) → Each Two l → Each Two m → Each Two (l ++ m)
twos-behind [] m x y = y
twos-behind (a ∷ l) m x y = (x.0, twos-behind l m x.1 y)

twos-along : {A : Type 0} (size : A → ℕ) (f : ℕ → A → List (List ℕ)) → ((first : ℕ) (a : A) → Each Two (f first a)) → (first : ℕ) (l : List A) → Each Two (along size f first l)
twos-along size f h first [] = tt
twos-along size f h first (a ∷ l) = twos-behind (f first a) (along size f (first + size a) l) (h first a) (twos-along size f h (first + size a) l)

twos_map : (first : ℕ) (cs : List Checkpoint) → Each Two (part-rows first cs)
twos_map first [] = tt
twos_map first (c ∷ cs) = (record { number = c.number; point = the_row_of first c.waypoint; is = refl }, twos_map first cs)

twos : (n : Network Field) → Each Two (checkpoint_rows n)
twos n = twos-behind (lane_part_of n) (zone_part_of n) (twos-along lane_size _ (λ first a. twos_map first a.checkpoints) 0 (all_lanes n))
    (twos-along zone_size _ (λ first z. twos-along (λ s. 2) (λ first s. part-rows first (perhaps s.checkpoint)) (λ first s. twos_map first (perhaps s.checkpoint)) _ z.spots) (first_zone_point n) n.zones)

row-of-goal : (g : ℕ) (rows : List (List ℕ)) → Each Two rows → Among g (heads rows) → (p : ℕ) × Among (g ∷ p ∷ []) rows
row-of-goal g [] t h = absurd h
row-of-goal g (r ∷ rows) t (inl e) = (t.0.point, inl (ap (λ (z : ℕ). z ∷ t.0.point ∷ []) (e ∙ ap head t.0.is) ∙ sym t.0.is))
row-of-goal g (r ∷ rows) t (inr h) = let x = row-of-goal g rows t.1 h in (x.0, inr x.1)

points-of-all : (n : Network Field) (numbers : List ℕ) → Each (λ g. Among g (all_numbers n)) numbers → (l : List ℕ) × Paired (λ g p. Among (g ∷ p ∷ []) (checkpoint_rows n)) numbers l
points-of-all n [] h = ([], tt)
points-of-all n (g ∷ gs) h = let x = row-of-goal g (checkpoint_rows n) (twos n) (subst (Among g) (sym (numbers-are n)) h.0) in let y = points-of-all n gs h.1 in (x.0 ∷ y.0, (x.1, y.1))

pub goals_of : (n : Network Field) (m : Mission Field) → Each (λ g. Among g (all_numbers n)) m.goals → (goals : List ℕ) × GoalPoints n m goals
goals_of n m = points-of-all n m.goals

-- as many
paired-length : {A B : Type 0} (R : A → B → Type 0) (l : List A) (m : List B) → Paired R l m → length l ≡ length m
paired-length R [] [] h = refl
paired-length R [] (b ∷ m) h = absurd h
paired-length R (a ∷ l) [] h = absurd h
paired-length R (a ∷ l) (b ∷ m) h = ap suc (paired-length R l m h.1)

pub goals-length : (n : Network Field) (m : Mission Field) (goals : List ℕ) → GoalPoints n m goals → length m.goals ≡ length goals
goals-length n m goals = paired-length (λ g p. Among (g ∷ p ∷ []) (checkpoint_rows n)) m.goals goals
