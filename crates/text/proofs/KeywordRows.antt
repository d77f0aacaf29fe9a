-- The keyword of a kind leads to that kind, and no other word does. For every file whose keywords and kinds are in rows. Assumes nothing.
use mathlib.Core.Path.{◌≡◌, refl, sym, ap, ◌∙◌}
use mathlib.Core.List.{List, []}
use mathlib.Core.Option.{none, some}
use mathlib.Core.Bool.{Bool, true, false}
use Prim.Native.Nat.{ℕ, ◌≤◌, ◌<◌}
use native.Mathlib.Omega.{arith}
use borrow.Author.Tests.{lt-ltb, ltb-true, ltb-false, eqb-true}
use lib.ListN.{length, get_or}
use lib.Dec.{ltb, eqb}
use Rattle.terms.specs.Ascii.{Bytes}
use Rattle.terms.specs.Words.{pick}
use Rattle.terms.proofs.Tests.{nothing}
use Rattle.terms.proofs.Computed.{all_below, below}
use Rattle.word.specs.Number.{index_of, digit_first}
use Rattle.word.proofs.Index.{all_differ, own-place, index_word}
use Rattle.text.specs.KeywordRows.{of_row}

module _ {A : Type 0} (n : ℕ) (l : List A) (d : A) (i : ℕ) where
  at_row : (a : A) → of_row n l d i ≡ some a → (i < n) × (get_or l i d ≡ a)
  at_row a e = go (ltb i n) refl e
    where
      go : (b : Bool) → ltb i n ≡ b → pick b (some (get_or l i d)) none ≡ some a → (i < n) × (get_or l i d ≡ a)
      go true q e = (ltb-true i n q, cc)
      go false q e = nothing e

  -- a row without a keyword stands behind those with one
  pub no_row : of_row n l d i ≡ none → n ≤ i
  no_row e = go (ltb i n) refl e
    where
      go : (b : Bool) → ltb i n ≡ b → pick b (some (get_or l i d)) none ≡ none → n ≤ i
      go true q e = nothing (sym e)
      go false q e = ltb-false i n q

-- n keywords, which differ, and none of which begins with a digit; kinds in rows, those of the keywords first
module _ {K : Type 0} (n : ℕ) (words : List Bytes) (kinds : List K) (row : K → ℕ) (other : K) where
  pub record Rowed : Type 0 where
    pub many : length words ≡ n
    pub differ : all_differ words ≡ true
    pub first : (i : ℕ) → i < n → digit_first (get_or words i []) ≡ false
    pub back : all_below (λ i. eqb (row (get_or kinds i other)) i) n ≡ true
    pub coded : (k : K) → get_or kinds (row k) other ≡ k

  module _ (R : Rowed) where
    pub lookup_right : (w : Bytes) (k : K) → of_row n kinds other (index_of w words) ≡ some k → of_row n words [] (row k) ≡ some w
    lookup_right w k e =
        let x = at_row n kinds other (index_of w words) k e in
        let i : row k ≡ index_of w words = ap row (sym x.1) ∙ eqb-true _ _ (below (λ i. eqb (row (get_or kinds i other)) i) n R.back (index_of w words) x.0) in
        rw (i, lt-ltb (index_of w words) n x.0) (ap some (sym (index_word w words (omega (arith, R.many, x.0)))))

    pub lookup_only : (w : Bytes) (k : K) → of_row n words [] (row k) ≡ some w → of_row n kinds other (index_of w words) ≡ some k
    lookup_only w k e =
        let x = at_row n words [] (row k) w e in
        let own : index_of (get_or words (row k) []) words ≡ row k = own-place words R.differ (row k) (omega (arith, R.many, x.0)) in
        rw (sym x.1) (rw (own, lt-ltb (row k) n x.0) (ap some (R.coded k)))

    pub no_digit : (w : Bytes) (k : K) → of_row n words [] (row k) ≡ some w → digit_first w ≡ false
    no_digit w k e = let x = at_row n words [] (row k) w e in rw (sym x.1) (R.first (row k) x.0)
