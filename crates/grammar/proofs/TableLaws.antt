-- A table whose rows are all equally long, looked up at any place and kind. Assumes nothing.
use mathlib.Core.Path.{◌≡◌, refl, sym, ap, subst}
use mathlib.Core.List.{List, [], ◌∷◌}
use mathlib.Core.Bool.{true}
use Prim.Native.Nat.{ℕ, zero, suc, ◌<◌, ◌≤◌}
use native.Mathlib.Nat.{le_of_suc-le-suc, not-suc-le-zero}
use borrow.Author.Tests.{eqb-true}
use lib.Dec.{eqb}
use lib.ListN.{length, get_or, get_or-eq_default}
use Rattle.terms.proofs.Computed.{every, every-at}
use Rattle.grammar.specs.PlaceTable.{cell}

-- what is within a list does not depend on what is said behind its end
pub within : {A : Type 0} (l : List A) (i : ℕ) (d e : A) → i < length l → get_or l i d ≡ get_or l i e
within [] i d e h = absurd (not-suc-le-zero h)
within (a ∷ l) zero d e h = refl
within (a ∷ l) (suc i) d e h = within l i d e (le_of_suc-le-suc h)

-- every row has w cells
module _ (table : List (List ℕ)) (w : ℕ) (even : every (λ row. eqb (length row) w) table ≡ true) where
  row-length : (place : ℕ) → place < length table → length (get_or table place []) ≡ w
  row-length place h = eqb-true (length (get_or table place [])) w (every-at (λ row. eqb (length row) w) table place [] even h)

  pub cell-within : (place kind d : ℕ) → place < length table → kind < w → get_or (get_or table place []) kind d ≡ cell table place kind
  cell-within place kind d h k = within (get_or table place []) kind d 255 (subst (λ (n : ℕ). kind < n) (sym (row-length place h)) k)

  pub cell-right : (place kind : ℕ) → place < length table → w ≤ kind → 255 ≡ cell table place kind
  cell-right place kind h k = sym (get_or-eq_default (get_or table place []) 255 (subst (λ (n : ℕ). n ≤ kind) (sym (row-length place h)) k))

pub cell_below : (table : List (List ℕ)) (place kind : ℕ) → length table ≤ place → 255 ≡ cell table place kind
cell_below table place kind h = ap (λ (row : List ℕ). get_or row kind 255) (sym (get_or-eq_default table [] h))
