-- The places of a route: one point at each, rising places, the goals taken and the first that is not. Assumes nothing.
use mathlib.Core.Path.{◌≡◌, sym, ap, subst, refl, ◌∙◌}
use mathlib.Core.List.{List, [], ◌∷◌, ◌++◌}
use mathlib.Core.Bool.{Bool, true, false}
use Prim.Native.Nat.{ℕ, zero, suc, ◌≤◌, ◌<◌}
use native.Mathlib.Omega.{arith}
use lib.Dec.{ltb}
use lib.ListN.{length}
use borrow.Author.Tests.{ltb-true, ltb-false}
use Rattle.look_up.specs.Listed.{Paired}
use Rattle.route_law.specs.Routes.{At, Last, Rising, MetInOrder, NotFrom, Earliest, Taken, none, one, Moves}

pub ordered : {X : Type 0} (i j : ℕ) → (i < j → X) → (j < i → X) → (i ≡ j → X) → X
ordered {X} i j less more same = go (ltb i j) (ltb j i) refl refl
  where
    go : (s t : Bool) → ltb i j ≡ s → ltb j i ≡ t → X
    go true t e f = less (ltb-true i j e)
    go false true e f = more (ltb-true j i f)
    go false false e f = same (let a = ltb-false i j e in let b = ltb-false j i f in omega arith)

-- a place that a point stands at is one of the route's
pub at-below : (l : List ℕ) (i a : ℕ) → At l i a → i < length l
at-below [] i a x = absurd x
at-below (y ∷ l) zero a x = omega arith
at-below (y ∷ l) (suc i) a x = let h = at-below l i a x in omega arith

-- one point stands there
pub at_one : (l : List ℕ) (i a b : ℕ) → At l i a → At l i b → a ≡ b
at_one [] i a b x y = absurd x
at_one (c ∷ l) zero a b x y = x ∙ sym y
at_one (c ∷ l) (suc i) a b x y = at_one l i a b x y

pub last_one : (l : List ℕ) (p q : ℕ) → Last l p → Last l q → p ≡ q
last_one [] p q x y = absurd x
last_one (a ∷ []) p q x y = x ∙ sym y
last_one (a ∷ b ∷ l) p q x y = last_one (b ∷ l) p q x y

-- ## Places that rise from k on
abbrev pub From : ℕ → List ℕ → Type 0
From k [] = Unit {0}
From k (p ∷ ps) = (k ≤ p) × From (suc p) ps

pub from-rising : (k : ℕ) (ps : List ℕ) → From k ps → Rising ps
from-rising k [] h = tt
from-rising k (p ∷ []) h = tt
from-rising k (p ∷ q ∷ ps) h = (omega (arith, h.1.0), from-rising (suc p) (q ∷ ps) h.1)

pub rising-from : (p : ℕ) (ps : List ℕ) → Rising (p ∷ ps) → From p (p ∷ ps)
rising-from p [] h = (omega arith, tt)
rising-from p (q ∷ ps) h = (omega arith, go (rising-from q ps h.1))
  where
    go : From q (q ∷ ps) → From (suc p) (q ∷ ps)
    go g = (omega (arith, h.0), g.1)

-- ## Goals taken
module _ (route : List ℕ) where
  pub one_place : (from p i j : ℕ) → Earliest route from p i → Earliest route from p j → i ≡ j
  one_place from p i j x y = ordered i j (λ l. absurd (y.none_before i x.behind l x.there)) (λ l. absurd (x.none_before j y.behind l y.there)) (λ e. e)

  -- goal k is the first that is not met, each goal taken at the earliest place
  abbrev pub Stuck : (from : ℕ) → (goals : List ℕ) → (k : ℕ) → Type 0
  Stuck from [] k = ⊥
  Stuck from (p ∷ goals) zero = NotFrom route from p
  Stuck from (p ∷ goals) (suc k) = (i : ℕ) × Earliest route from p i × Stuck (suc i) goals k

  pub stuck_at : (from : ℕ) (before : List ℕ) (p : ℕ) (after : List ℕ) (left : ℕ) → Taken route from before left → NotFrom route left p → Stuck from (before ++ (p ∷ after)) (length before)
  stuck_at from [] p after left none a = a
  stuck_at from (q ∷ before) p after left (one {i = i} x rest) a = (i, x, stuck_at (suc i) before p after left rest a)

  pub stuck-one : (from : ℕ) (goals : List ℕ) (k m : ℕ) → Stuck from goals k → Stuck from goals m → k ≡ m
  stuck-one from [] k m x y = absurd x
  stuck-one from (p ∷ goals) zero zero x y = refl
  stuck-one from (p ∷ goals) zero (suc m) x y = absurd (x y.0 y.1.behind y.1.there)
  stuck-one from (p ∷ goals) (suc k) zero x y = absurd (y x.0 x.1.behind x.1.there)
  stuck-one from (p ∷ goals) (suc k) (suc m) x y = ap suc (stuck-one (suc x.0) goals k m x.2 (subst (λ z. Stuck (suc z) goals m) (one_place from p y.0 x.0 y.1 x.1) y.2))

  -- all goals taken: none is stuck
  pub taken_free : (from : ℕ) (goals : List ℕ) (left k : ℕ) → Taken route from goals left → Stuck from goals k → ⊥
  taken_free from [] left k t s = s
  taken_free from (p ∷ goals) left zero (one {i = i} x rest) s = s i x.behind x.there
  taken_free from (p ∷ goals) left (suc k) (one {i = i} x rest) s = taken_free (suc i) goals left k rest (subst (λ z. Stuck (suc z) goals k) (one_place from p s.0 i s.1 x) s.2)

  -- met in order, at whatever places: none is stuck, since the earliest places are never later
  met-free : (from : ℕ) (goals places : List ℕ) (k : ℕ) → Paired (At route) places goals → (n : ℕ) → from ≤ n → From n places → Stuck from goals k → ⊥
  met-free from [] places k h n l r s = s
  met-free from (p ∷ goals) [] k h n l r s = h
  met-free from (p ∷ goals) (i ∷ places) zero h n l r s = s i (omega (arith, r.0)) h.0
  met-free from (p ∷ goals) (i ∷ places) (suc k) h n l r s = go (ltb i s.0) refl (λ f. met-free (suc s.0) goals places k h.1 (suc i) f r.1 s.2)
    where
      go : (b : Bool) → ltb i s.0 ≡ b → (suc s.0 ≤ suc i → ⊥) → ⊥
      go true e behind = s.1.none_before i (omega (arith, r.0)) (ltb-true i s.0 e) h.0
      go false e behind = behind (let f = ltb-false i s.0 e in omega arith)

  pub in-order-free : (goals : List ℕ) (k : ℕ) → MetInOrder route goals → Stuck 0 goals k → ⊥
  in-order-free goals k m s = go m.places m.met m.rising
    where
      go : (places : List ℕ) → Paired (At route) places goals → Rising places → ⊥
      go [] h r = met-free 0 goals [] k h 0 (omega arith) tt s
      go (p ∷ ps) h r = met-free 0 goals (p ∷ ps) k h p (omega arith) (rising-from p ps r) s

  -- taken, they are met in order
  record Placed (from : ℕ) (goals : List ℕ) : Type 0 where
    pub places : List ℕ
    pub met : Paired (At route) places goals
    pub rising : From from places

  placed : (from : ℕ) (goals : List ℕ) (left : ℕ) → Taken route from goals left → Placed from goals
  placed from [] left t = record { places = []; met = tt; rising = tt }
  placed from (p ∷ goals) left (one {i = i} x rest) = let r = placed (suc i) goals left rest in record { places = i ∷ r.places; met = (x.there, r.met); rising = (x.behind, r.rising) }

  pub taken-met : (goals : List ℕ) (left : ℕ) → Taken route 0 goals left → MetInOrder route goals
  taken-met goals left t = let r = placed 0 goals left t in record { places = r.places; met = r.met; rising = from-rising 0 r.places r.rising }

-- ## A route told point by point
-- each step is a move
abbrev pub Stepwise : (Move : ℕ → ℕ → Type 0) → List ℕ → Type 0
Stepwise Move [] = Unit {0}
Stepwise Move (a ∷ []) = Unit {0}
Stepwise Move (a ∷ b ∷ l) = Move a b × Stepwise Move (b ∷ l)

pub stepwise_moves : (Move : ℕ → ℕ → Type 0) (l : List ℕ) (k : ℕ) → Stepwise Move l → Moves Move l k
stepwise_moves Move [] k h i a b j x y = absurd x
stepwise_moves Move (p ∷ []) k h i a b j x y = absurd y
stepwise_moves Move (p ∷ q ∷ l) k h zero a b j x y = subst (λ z. Move z b) (sym x) (subst (λ z. Move p z) (sym y) h.0)
stepwise_moves Move (p ∷ q ∷ l) k h (suc i) a b j x y = stepwise_moves Move (q ∷ l) k h.1 i a b (omega arith) x y

-- nothing stands in an empty route
pub not-from-end : (from p : ℕ) → NotFrom [] from p
not-from-end from p i l x = x

-- from here on: not here, and not behind
pub not-from-here : (a p : ℕ) (l : List ℕ) → (p ≡ a → ⊥) → NotFrom l 0 p → NotFrom (a ∷ l) 0 p
not-from-here a p l h r zero k x = h x
not-from-here a p l h r (suc i) k x = r i (omega arith) x

pub not-from-behind : (a p from : ℕ) (l : List ℕ) → NotFrom l from p → NotFrom (a ∷ l) (suc from) p
not-from-behind a p from l r zero k x = absurd (omega arith)
not-from-behind a p from l r (suc i) k x = r i (omega arith) x

pub earliest-here : (a p : ℕ) (l : List ℕ) → p ≡ a → Earliest (a ∷ l) 0 p 0
earliest-here a p l e = record { behind = omega arith; there = e; none_before = λ j k m x. omega arith }

pub earliest-later : (a p i : ℕ) (l : List ℕ) → (p ≡ a → ⊥) → Earliest l 0 p i → Earliest (a ∷ l) 0 p (suc i)
earliest-later a p i l h r = record { behind = omega arith; there = r.there; none_before = before }
  where
    before : (j : ℕ) → 0 ≤ j → j < suc i → At (a ∷ l) j p → ⊥
    before zero k m x = h x
    before (suc j) k m x = r.none_before j (omega arith) (omega arith) x

pub earliest-behind : (a p from i : ℕ) (l : List ℕ) → Earliest l from p i → Earliest (a ∷ l) (suc from) p (suc i)
earliest-behind a p from i l r = record { behind = (let b = r.behind in omega arith); there = r.there; none_before = before }
  where
    before : (j : ℕ) → suc from ≤ j → j < suc i → At (a ∷ l) j p → ⊥
    before zero k m x = absurd (omega arith)
    before (suc j) k m x = r.none_before j (omega arith) (omega arith) x
