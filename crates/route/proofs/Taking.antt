-- What `goals_met_of` says of the goals: so many are taken, each at the earliest place, and the next is not met. Assumes nothing.
use mathlib.Core.Path.{◌≡◌, refl, sym, ap, subst, ◌∙◌}
use mathlib.Core.Bool.{Bool, true, false}
use mathlib.Core.List.{List, [], ◌∷◌, ◌++◌, head-eq_of_cons-eq}
use Prim.Native.Nat.{ℕ, zero, suc, ◌+◌, ◌-◌, ◌≤◌, ◌<◌}
use native.Mathlib.Omega.{arith}
use lib.Dec.{ltb, eqb}
use lib.ListN.{length, get_or}
use borrow.Author.Tests.{lt-ltb, le-ltb, eqb-true, eqb-false, eq-eqb, ne_eqb}
use Rattle.terms.specs.Words.{pick}
use Rattle.route_law.specs.Routes.{At, NotFrom, Earliest, Taken, none, one}
use Rattle.route_law.proofs.Places.{ordered, at-below}
use Rattle.route.specs.Judged.{goals_met_of}
use Rattle.route.proofs.Steps.{at_here, at-is}

module _ (route : List ℕ) where
  -- of these goals' points, from this place on, k are taken
  pub data Met (from : ℕ) (points : List ℕ) (k : ℕ) : Type 0 where
    all : (left : ℕ) → Taken route from points left → k ≡ length points → Met from points k
    stuck : (before : List ℕ) (p : ℕ) (after : List ℕ) (left : ℕ) → points ≡ before ++ (p ∷ after) → Taken route from before left → NotFrom route left p → k ≡ length before → Met from points k

  -- p does not stand here: what is met from the next place on is met from here on
  module _ (place p : ℕ) (not-here : At route place p → ⊥) where
    earlier : (i : ℕ) → Earliest route (suc place) p i → Earliest route place p i
    earlier i x = record { behind = (let b = x.behind in omega arith); there = x.there; none_before = λ j l m y. ordered place j (λ n. x.none_before j n m y) (λ n. absurd (omega arith)) (λ e. not-here (subst (λ (k : ℕ). At route k p) (sym e) y)) }

    absent : NotFrom route (suc place) p → NotFrom route place p
    absent h i l y = ordered place i (λ n. h i n y) (λ n. absurd (omega arith)) (λ e. not-here (subst (λ (k : ℕ). At route k p) (sym e) y))

    later : (points : List ℕ) (k : ℕ) → Met (suc place) (p ∷ points) k → Met place (p ∷ points) k
    later points k (all left (one {i = i} x rest) e) = all left (one (earlier i x) rest) e
    later points k (stuck [] q after left split none h e) = stuck [] q after place split none (subst (NotFrom route place) (head-eq_of_cons-eq split) (absent (subst (NotFrom route (suc place)) (sym (head-eq_of_cons-eq split)) h))) e
    later points k (stuck (q ∷ before) r after left split (one {i = i} x rest) h e) = stuck (q ∷ before) r after left split (one (subst (λ (z : ℕ). Earliest route place z i) same (earlier i (subst (λ (z : ℕ). Earliest route (suc place) z i) (sym same) x))) rest) h e
      where
        same : p ≡ q
        same = head-eq_of_cons-eq split

  -- p stands here: it is taken here
  here : (place p : ℕ) → At route place p → Earliest route place p place
  here place p x = record { behind = omega arith; there = x; none_before = λ j l m y. absurd (omega arith) }

  now : (place p : ℕ) (points : List ℕ) (k : ℕ) → At route place p → Met (suc place) points k → Met place (p ∷ points) (suc k)
  now place p points k x (all left t e) = all left (one (here place p x) t) (ap suc e)
  now place p points k x (stuck before q after left split t h e) = stuck (p ∷ before) q after left (ap (◌∷◌ p) split) (one (here place p x) t) h (ap suc e)

  -- THE LAW. point: the goals' points; taken: so many are taken before this place; points: those of the others
  module _ (point : ℕ → ℕ) (count : ℕ) where
    pub met : (left place taken : ℕ) (points : List ℕ) → place + left ≡ length route → taken + length points ≡ count → ((j : ℕ) → j < length points → point (taken + j) ≡ get_or points j 0)
        → (k : ℕ) × (goals_met_of point count route taken place left ≡ taken + k) × Met place points k
    unfolding goals_met_of
    met zero place taken [] end many are = (0, omega arith, all place none refl)
    met zero place taken (p ∷ points) end many are = (0, omega arith, stuck [] p points place refl none (λ i l x. let b = at-below route i p x in absurd (omega arith)) refl)
    met (suc left) place taken [] end many are = (0, rw (le-ltb taken count (omega arith)) (omega arith), all place none refl)
    met (suc left) place taken (p ∷ points) end many are = go (eqb (get_or route place 0) (point taken)) refl
        (met left (suc place) (suc taken) points (omega arith) (omega arith) (λ j l. let e : suc taken + j ≡ taken + suc j = omega arith in ap point e ∙ are (suc j) (omega arith)))
        (met left (suc place) taken (p ∷ points) (omega arith) many are)
      where
        wanted : point taken ≡ p
        wanted = let e : taken ≡ taken + 0 = omega arith in ap point e ∙ are 0 (omega arith)

        go : (x : Bool) → eqb (get_or route place 0) (point taken) ≡ x
            → (k : ℕ) × (goals_met_of point count route (suc taken) (suc place) left ≡ suc taken + k) × Met (suc place) points k
            → (k : ℕ) × (goals_met_of point count route taken (suc place) left ≡ taken + k) × Met (suc place) (p ∷ points) k
            → (k : ℕ) × (pick (ltb taken count) (goals_met_of point count route (pick (eqb (get_or route place 0) (point taken)) (suc taken) taken) (suc place) left) taken ≡ taken + k) × Met place (p ∷ points) k
        go true e r s = (suc r.0, rw (lt-ltb taken count (omega arith), e) (r.1 ∙ (let f : suc taken + r.0 ≡ taken + suc r.0 = omega arith in f)), now place p points r.0 (subst (At route place) (eqb-true (get_or route place 0) (point taken) e ∙ wanted) (at_here route place (omega arith))) r.2)
        go false e r s = (s.0, rw (lt-ltb taken count (omega arith), e) s.1, later place p (λ x. eqb-false (get_or route place 0) (point taken) e (sym (at-is route place p x) ∙ sym wanted)) points s.0 s.2)

-- ## The loop
module _ (point : ℕ → ℕ) (count : ℕ) (route : List ℕ) (taken place len : ℕ) where
  pub goals-done : len ≤ place → goals_met_of point count route taken place (len - place) ≡ taken
  unfolding goals_met_of
  goals-done h = let left : len - place ≡ 0 = omega arith in rw left

  pub all-taken : place < len → count ≤ taken → goals_met_of point count route taken place (len - place) ≡ taken
  unfolding goals_met_of
  all-taken h e = let left : len - place ≡ suc (len - (place + 1)) = omega arith in rw (left, le-ltb taken count e)

  pub goal-here : place < len → taken < count → get_or route place 0 ≡ point taken → goals_met_of point count route (taken + 1) (place + 1) (len - (place + 1)) ≡ goals_met_of point count route taken place (len - place)
  unfolding goals_met_of
  goal-here h m e =
      let left : len - place ≡ suc (len - (place + 1)) = omega arith in
      let next : place + 1 ≡ suc place = omega arith in
      let more : taken + 1 ≡ suc taken = omega arith in
      (λ i. goals_met_of point count route (more i) (next i) (len - (place + 1))) ∙ rw (left, lt-ltb taken count m, eq-eqb (get_or route place 0) (point taken) e)

  pub goal-not-here : place < len → taken < count → (get_or route place 0 ≡ point taken → ⊥) → goals_met_of point count route taken (place + 1) (len - (place + 1)) ≡ goals_met_of point count route taken place (len - place)
  unfolding goals_met_of
  goal-not-here h m e =
      let left : len - place ≡ suc (len - (place + 1)) = omega arith in
      let next : place + 1 ≡ suc place = omega arith in
      ap (λ (k : ℕ). goals_met_of point count route taken k (len - (place + 1))) next ∙ rw (left, lt-ltb taken count m, ne_eqb (get_or route place 0) (point taken) e)
