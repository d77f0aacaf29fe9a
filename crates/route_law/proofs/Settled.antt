-- THE THEOREMS of L5, whatever the moves are: no route is good and at fault (`not-both`), no two faults hold (`one-fault`), and where moves can be decided and there are goals, one of these holds (`some-answer`). Assumes nothing.
use mathlib.Core.Path.{◌≡◌, refl, sym, ap, subst, ◌∙◌}
use mathlib.Core.List.{List, [], ◌∷◌, ◌++◌}
use mathlib.Core.Logic.{◌⊎◌, inl, inr}
use mathlib.Core.Bool.{Bool, true, false}
use Prim.Native.Nat.{ℕ, zero, suc, ◌+◌, ◌≤◌, ◌<◌}
use native.Mathlib.Omega.{arith}
use lib.Dec.{ltb, eqb}
use lib.ListN.{length}
use borrow.Author.Tests.{ltb-true, ltb-false, eqb-true, eqb-false}
use Rattle.route_law.specs.Routes.{At, Last, MetInOrder, NotFrom, Earliest, Taken, none, one, Moves, Ends, BeginsAtStart, GoodRoute, RouteFault, no_beginning, no_move, not_met, wrong_end}
use Rattle.route_law.proofs.Places.{ordered, at-below, at_one, last_one, Stuck, stuck_at, stuck-one, taken_free, in-order-free, taken-met}

-- ## At most one
module _ (points : ℕ) (Move : ℕ → ℕ → Type 0) (start : ℕ) (route goals : List ℕ) where
  abbrev Good : Type 0
  Good = GoodRoute points Move start route goals

  abbrev Bad : (line number : ℕ) → Type 0
  Bad = RouteFault points Move start route goals

  stuck-of : (before : List ℕ) (p : ℕ) (after : List ℕ) (left : ℕ) → goals ≡ before ++ (p ∷ after) → Taken route 0 before left → NotFrom route left p → Stuck route 0 goals (length before)
  stuck-of before p after left e t a = subst (λ g. Stuck route 0 g (length before)) (sym e) (stuck_at route 0 before p after left t a)

  all-move : Moves Move route (length route) → (i a b : ℕ) → At route i a → At route (suc i) b → Move a b
  all-move m i a b x y = m i a b (at-below route i a x) x y

  pub not-both : (line number : ℕ) → Good → Bad line number → ⊥
  not-both line number g (no_beginning b) = b g.begins
  not-both line number g (no_move i a b s m x y h) = h (all-move g.moves i a b x y)
  not-both line number g (not_met before p after left s m e t h) = in-order-free route goals (length before) g.met (stuck-of before p after left e t h)
  not-both line number g (wrong_end left s m t h) = h g.ends

  pub one-fault : (line number line' number' : ℕ) → Bad line number → Bad line' number' → (line ≡ line') × (number ≡ number')
  one-fault l n l' n' (no_beginning b) (no_beginning b') = (refl, refl)
  one-fault l n l' n' (no_beginning b) (no_move i a c s m x y h) = absurd (b s)
  one-fault l n l' n' (no_beginning b) (not_met before p after left s m e t h) = absurd (b s)
  one-fault l n l' n' (no_beginning b) (wrong_end left s m t h) = absurd (b s)
  one-fault l n l' n' (no_move i a c s m x y h) (no_beginning b) = absurd (b s)
  one-fault l n l' n' (no_move i a c s m x y h) (no_move i' a' c' s' m' x' y' h') = (ordered i i' (λ k. absurd (h (m' i a c k x y))) (λ k. absurd (h' (m i' a' c' k x' y'))) (λ e. ap suc e), refl)
  one-fault l n l' n' (no_move i a c s m x y h) (not_met before p after left s' m' e t h') = absurd (h (all-move m' i a c x y))
  one-fault l n l' n' (no_move i a c s m x y h) (wrong_end left s' m' t h') = absurd (h (all-move m' i a c x y))
  one-fault l n l' n' (not_met before p after left s m e t h) (no_beginning b) = absurd (b s)
  one-fault l n l' n' (not_met before p after left s m e t h) (no_move i a c s' m' x y h') = absurd (h' (all-move m i a c x y))
  one-fault l n l' n' (not_met before p after left s m e t h) (not_met before' p' after' left' s' m' e' t' h') =
      (stuck-one route 0 goals (length before) (length before') (stuck-of before p after left e t h) (stuck-of before' p' after' left' e' t' h'), refl)
  one-fault l n l' n' (not_met before p after left s m e t h) (wrong_end left' s' m' t' h') = absurd (taken_free route 0 goals left' (length before) t' (stuck-of before p after left e t h))
  one-fault l n l' n' (wrong_end left s m t h) (no_beginning b) = absurd (b s)
  one-fault l n l' n' (wrong_end left s m t h) (no_move i a c s' m' x y h') = absurd (h' (all-move m i a c x y))
  one-fault l n l' n' (wrong_end left s m t h) (not_met before p after left' s' m' e t' h') = absurd (taken_free route 0 goals left (length before) t (stuck-of before p after left' e t' h'))
  one-fault l n l' n' (wrong_end left s m t h) (wrong_end left' s' m' t' h') = (refl, refl)

-- ## At least one, where moves can be decided
-- the first place from `from` on at which p stands
record First (route : List ℕ) (from p : ℕ) : Type 0 where
  pub place : ℕ
  pub there : Earliest route from p place

-- what stands at place i
told : (l : List ℕ) (i : ℕ) → ((q : ℕ) × At l i q) ⊎ ((q : ℕ) → At l i q → ⊥)
told [] i = inr (λ q x. x)
told (c ∷ l) zero = inl (c, refl)
told (c ∷ l) (suc i) = told l i

find : (route : List ℕ) (p n i : ℕ) → length route ≤ i + n → (from : ℕ) → from ≤ i → ((j : ℕ) → from ≤ j → j < i → At route j p → ⊥) → First route from p ⊎ NotFrom route from p
find route p zero i h from f a = inr (λ j l x. a j l (let b = at-below route j p x in omega arith) x)
find route p (suc n) i h from f a = go (told route i) (λ b. find route p n (suc i) (omega arith) from (omega arith) b)
  where
    more : (At route i p → ⊥) → (j : ℕ) → from ≤ j → j < suc i → At route j p → ⊥
    more b j l k x = ordered j i (λ m. a j l m x) (λ m. omega arith) (λ e. b (subst (λ z. At route z p) e x))

    go : ((q : ℕ) × At route i q) ⊎ ((q : ℕ) → At route i q → ⊥) → (((j : ℕ) → from ≤ j → j < suc i → At route j p → ⊥) → First route from p ⊎ NotFrom route from p) → First route from p ⊎ NotFrom route from p
    go (inr b) behind = behind (more (b p))
    go (inl t) behind = test (eqb t.0 p) refl
      where
        test : (s : Bool) → eqb t.0 p ≡ s → First route from p ⊎ NotFrom route from p
        test true e = inl (record { place = i; there = record { behind = f; there = subst (λ z. At route i z) (eqb-true t.0 p e) t.1; none_before = a } })
        test false e = behind (more (λ x. eqb-false t.0 p e (at_one route i t.0 p t.1 x)))

first-place : (route : List ℕ) (from p : ℕ) → First route from p ⊎ NotFrom route from p
first-place route from p = find route p (length route) from (omega arith) from (omega arith) (λ j l k x. omega arith)

record Blocked (route : List ℕ) (from : ℕ) (goals : List ℕ) : Type 0 where
  pub before : List ℕ
  pub p : ℕ
  pub after : List ℕ
  pub left : ℕ
  pub split : goals ≡ before ++ (p ∷ after)
  pub taken : Taken route from before left
  pub absent : NotFrom route left p

record All (route : List ℕ) (from : ℕ) (goals : List ℕ) : Type 0 where
  pub left : ℕ
  pub taken : Taken route from goals left

take_all : (route : List ℕ) (from : ℕ) (goals : List ℕ) → All route from goals ⊎ Blocked route from goals
take_all route from [] = inl (record { left = from; taken = none })
take_all route from (p ∷ goals) = go (first-place route from p) (λ i. take_all route i goals)
  where
    go : First route from p ⊎ NotFrom route from p → ((i : ℕ) → All route i goals ⊎ Blocked route i goals) → All route from (p ∷ goals) ⊎ Blocked route from (p ∷ goals)
    go (inr a) rest = inr (record { before = []; p = p; after = goals; left = from; split = refl; taken = none; absent = a })
    go (inl f) rest = on (rest (suc f.place))
      where
        on : All route (suc f.place) goals ⊎ Blocked route (suc f.place) goals → All route from (p ∷ goals) ⊎ Blocked route from (p ∷ goals)
        on (inl a) = inl (record { left = a.left; taken = one f.there a.taken })
        on (inr b) = inr (record { before = p ∷ b.before; p = b.p; after = b.after; left = b.left; split = ap (p ∷◌) b.split; taken = one f.there b.taken; absent = b.absent })

last_of : (a : ℕ) (l : List ℕ) → (p : ℕ) × Last (a ∷ l) p
last_of a [] = (a, refl)
last_of a (b ∷ l) = last_of b l

last-goal : (g : List ℕ) → 1 ≤ length g → (p : ℕ) × Last g p
last-goal [] k = absurd (omega arith)
last-goal (b ∷ g) k = last_of b g

record BadStep (Move : ℕ → ℕ → Type 0) (l : List ℕ) : Type 0 where
  pub i : ℕ
  pub a : ℕ
  pub b : ℕ
  pub before : Moves Move l i
  pub from : At l i a
  pub to : At l (suc i) b
  pub not : Move a b → ⊥

module _ (Move : ℕ → ℕ → Type 0) (decide : (a b : ℕ) → Move a b ⊎ (Move a b → ⊥)) where
  abbrev Stepping : List ℕ → Type 0
  Stepping l = (i a b : ℕ) → At l i a → At l (suc i) b → Move a b

  steps : (l : List ℕ) → Stepping l ⊎ BadStep Move l
  steps [] = inl (λ i a b x y. absurd x)
  steps (p ∷ []) = inl (λ i a b x y. absurd y)
  steps (p ∷ q ∷ l) = go (decide p q) (steps (q ∷ l))
    where
      moved : Move p q → (x y : ℕ) → x ≡ p → y ≡ q → Move x y
      moved m x y e f = subst (λ z. Move z y) (sym e) (subst (λ z. Move p z) (sym f) m)

      both : Move p q → Stepping (q ∷ l) → Stepping (p ∷ q ∷ l)
      both m r zero a b x y = moved m a b x y
      both m r (suc i) a b x y = r i a b x y

      shift : Move p q → (k : ℕ) → Moves Move (q ∷ l) k → Moves Move (p ∷ q ∷ l) (suc k)
      shift m k r zero x y h s t = moved m x y s t
      shift m k r (suc j) x y h s t = r j x y (omega arith) s t

      go : Move p q ⊎ (Move p q → ⊥) → Stepping (q ∷ l) ⊎ BadStep Move (q ∷ l) → Stepping (p ∷ q ∷ l) ⊎ BadStep Move (p ∷ q ∷ l)
      go (inr m) r = inr (record { i = 0; a = p; b = q; before = λ j x y h s t. absurd (omega arith); from = refl; to = refl; not = m })
      go (inl m) (inl r) = inl (both m r)
      go (inl m) (inr w) = inr (record { i = suc w.i; a = w.a; b = w.b; before = shift m w.i w.before; from = w.from; to = w.to; not = w.not })

  module _ (points start : ℕ) (route goals : List ℕ) where
    abbrev Answered : Type 0
    Answered = GoodRoute points Move start route goals ⊎ ((line : ℕ) × (number : ℕ) × RouteFault points Move start route goals line number)

    -- 01: "`num_checkpoints` > 0": the mission has goals
    pub some-answer : 1 ≤ length goals → Answered
    some-answer h = begun route refl
      where
        begun : (r : List ℕ) → route ≡ r → Answered
        begun [] e = inr (0, 21, no_beginning (λ b. subst (λ r. At r 0 start) e b.there))
        begun (a ∷ l) e = go (eqb start a) (ltb start points) refl refl
          where
            go : (s t : Bool) → eqb start a ≡ s → ltb start points ≡ t → Answered
            go false t p q = inr (0, 21, no_beginning (λ b. eqb-false start a p (subst (λ r. At r 0 start) e b.there)))
            go true false p q = inr (0, 21, no_beginning (λ b. let x = ltb-false start points q in let y = b.declared in omega arith))
            go true true p q = moving (steps route)
              where
                begins : BeginsAtStart points Move start route
                begins = record { declared = ltb-true start points q; there = subst (λ r. At r 0 start) (sym e) (eqb-true start a p) }

                moving : Stepping route ⊎ BadStep Move route → Answered
                moving (inr w) = inr (suc w.i, 22, no_move w.i w.a w.b begins w.before w.from w.to w.not)
                moving (inl m) = meeting (take_all route 0 goals)
                  where
                    moves : Moves Move route (length route)
                    moves i x y k s t = m i x y s t

                    end : (r : ℕ) × Last route r
                    end = let w = last_of a l in (w.0, subst (λ r. Last r w.0) (sym e) w.1)

                    last : (p : ℕ) × Last goals p
                    last = last-goal goals h

                    meeting : All route 0 goals ⊎ Blocked route 0 goals → Answered
                    meeting (inr w) = inr (length w.before, 23, not_met w.before w.p w.after w.left begins moves w.split w.taken w.absent)
                    meeting (inl w) = ending (eqb end.0 last.0) refl
                      where
                        ending : (s : Bool) → eqb end.0 last.0 ≡ s → Answered
                        ending true f = inl (record { begins = begins; moves = moves; met = taken-met route goals w.left w.taken; ends = record { end = end.0; of_route = end.1; of_goals = subst (Last goals) (sym (eqb-true end.0 last.0 f)) last.1 } })
                        ending false f = inr (0, 24, wrong_end w.left begins moves w.taken (λ x. eqb-false end.0 last.0 f (last_one route end.0 x.end end.1 x.of_route ∙ last_one goals x.end last.0 x.of_goals last.1)))
