-- What `stray` says of the steps of a route: those before it are moves, the one to it is none. Assumes nothing.
use mathlib.Core.Path.{◌≡◌, refl, sym, ap, ◌∙◌}
use mathlib.Core.Bool.{Bool, true, false}
use mathlib.Core.List.{List, [], ◌∷◌}
use Prim.Native.Nat.{ℕ, zero, suc, ◌+◌, ◌-◌, ◌≤◌, ◌<◌}
use native.Mathlib.Omega.{arith}
use lib.ListN.{length, get_or}
use Rattle.terms.specs.Words.{pick}
use Rattle.route_law.specs.Routes.{At, Last}
use Rattle.route_law.proofs.Places.{ordered}
use Rattle.route.specs.Judged.{stray}

-- ## What stands at a place
pub at_here : (l : List ℕ) (i : ℕ) → i < length l → At l i (get_or l i 0)
at_here [] i h = absurd (omega arith)
at_here (a ∷ l) zero h = refl
at_here (a ∷ l) (suc i) h = at_here l i (omega arith)

pub at-is : (l : List ℕ) (i p : ℕ) → At l i p → p ≡ get_or l i 0
at-is [] i p x = absurd x
at-is (a ∷ l) zero p x = x
at-is (a ∷ l) (suc i) p x = at-is l i p x

pub last-here : (l : List ℕ) → 1 ≤ length l → Last l (get_or l (length l - 1) 0)
last-here [] h = absurd (omega arith)
last-here (a ∷ []) h = refl
last-here (a ∷ b ∷ l) h = at (length (b ∷ l) - 1) (suc (length (b ∷ l)) - 1) (omega arith) (last-here (b ∷ l) (omega arith))
  where
    at : (i j : ℕ) → j ≡ suc i → Last (b ∷ l) (get_or (b ∷ l) i 0) → Last (b ∷ l) (get_or (a ∷ b ∷ l) j 0)
    at i j e h = rw e h

-- ## The steps
module _ (move : ℕ → ℕ → Bool) (route : List ℕ) where
  pub stray-from : (place left : ℕ) → place ≤ stray move route place left
  unfolding stray
  stray-from place zero = omega arith
  stray-from place (suc left) = go (move (get_or route (place - 1) 0) (get_or route place 0)) (stray-from (suc place) left)
    where
      go : (x : Bool) → suc place ≤ stray move route (suc place) left → place ≤ pick x (stray move route (suc place) left) place
      go true h = omega arith
      go false h = omega arith

  pub moved : (place left i : ℕ) → place ≤ suc i → suc i < stray move route place left → move (get_or route i 0) (get_or route (suc i) 0) ≡ true
  unfolding stray
  moved place zero i h b = absurd (omega arith)
  moved place (suc left) i h b = go (move (get_or route (place - 1) 0) (get_or route place 0)) refl b (moved (suc place) left i)
    where
      go : (x : Bool) → move (get_or route (place - 1) 0) (get_or route place 0) ≡ x → suc i < pick x (stray move route (suc place) left) place → (suc place ≤ suc i → suc i < stray move route (suc place) left → move (get_or route i 0) (get_or route (suc i) 0) ≡ true)
          → move (get_or route i 0) (get_or route (suc i) 0) ≡ true
      go false e b rest = absurd (omega arith)
      go true e b rest = ordered place (suc i) (λ l. rest l b) (λ l. absurd (omega arith)) (λ s. let before : i ≡ place - 1 = omega arith in (λ j. move (get_or route (before j) 0) (get_or route (sym s j) 0)) ∙ e)

  pub not-moved : (place left : ℕ) → stray move route place left < place + left → move (get_or route (stray move route place left - 1) 0) (get_or route (stray move route place left) 0) ≡ false
  unfolding stray
  not-moved place zero b = absurd (omega arith)
  not-moved place (suc left) b = go (move (get_or route (place - 1) 0) (get_or route place 0)) refl b (not-moved (suc place) left)
    where
      go : (x : Bool) → move (get_or route (place - 1) 0) (get_or route place 0) ≡ x → pick x (stray move route (suc place) left) place < place + suc left
          → (stray move route (suc place) left < suc place + left → move (get_or route (stray move route (suc place) left - 1) 0) (get_or route (stray move route (suc place) left) 0) ≡ false)
          → move (get_or route (pick x (stray move route (suc place) left) place - 1) 0) (get_or route (pick x (stray move route (suc place) left) place) 0) ≡ false
      go false e b rest = e
      go true e b rest = rest (omega arith)

  -- ## The loop
  module _ (place len : ℕ) where
    pub step-on : place < len → move (get_or route (place - 1) 0) (get_or route place 0) ≡ true → stray move route (place + 1) (len - (place + 1)) ≡ stray move route place (len - place)
    unfolding stray
    step-on h e =
        let left : len - place ≡ suc (len - (place + 1)) = omega arith in
        let next : place + 1 ≡ suc place = omega arith in
        ap (λ (k : ℕ). stray move route k (len - (place + 1))) next ∙ rw (left, e)

    pub step-off : place < len → move (get_or route (place - 1) 0) (get_or route place 0) ≡ false → stray move route place (len - place) ≡ place
    unfolding stray
    step-off h e = let left : len - place ≡ suc (len - (place + 1)) = omega arith in rw (left, e)

    pub steps-done : len ≤ place → stray move route place (len - place) ≡ place
    unfolding stray
    steps-done h = let left : len - place ≡ 0 = omega arith in rw left
