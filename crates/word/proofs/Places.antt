-- The table of places leads to the one row that can be a field's. Assumes nothing.
use mathlib.Core.Path.{◌≡◌, refl, sym, ap, ◌∙◌}
use mathlib.Core.List.{List, [], ◌∷◌}
use mathlib.Core.Bool.{Bool, true, false, ◌||◌}
use Prim.Native.Nat.{ℕ, ◌<◌}
use native.Mathlib.Nat.{mod-lt}
use borrow.Author.Tests.{eqb-true, ltb-true, ne_eqb}
use lib.Dec.{eqb, ltb, lit<}
use Rattle.terms.specs.Ascii.{Bytes, ascii}
use Rattle.terms.proofs.Computed.{below}
use Rattle.terms.proofs.Tests.{clash}
use Rattle.word.specs.Keywords.{rndf_keywords, mdf_keywords, boundary_words}
use Rattle.word.specs.Number.{index_of}
use Rattle.word.specs.Table.{words, word_at, place_of, places, place_at_of, OnlyRow}
use Rattle.word.proofs.Rows.{row_word}

pub place-small : (h : ℕ) → h < 64 → place_at_of h < 41
unfolding places words rndf_keywords mdf_keywords boundary_words ascii
place-small h l = ltb-true _ _ (below (λ h. ltb (place_at_of h) 41) 64 refl h l)

-- each word's place has its row: no two words have the same place
pub place-own : (k : ℕ) → k < 41 → place_at_of (place_of (word_at k)) ≡ k
unfolding places words rndf_keywords mdf_keywords boundary_words ascii
place-own k h = eqb-true _ _ (below (λ k. eqb (place_at_of (place_of (word_at k))) k) 41 refl k h)

-- so the row at a field's place is the only one that can be the field's
pub place_row : (s : Bytes) → OnlyRow s (place_at_of (place_of s))
place_row s =
    record {
      in_table = place-small (place_of s) (mod-lt _ (lit< tt));
      only = λ h. ap (λ (w : Bytes). place_at_of (place_of w)) (row_word s h) ∙ place-own (index_of s words) h;
    }

-- ## The places without a word
-- a number is none of a list; the last of the list first, as a `match` tells what its keys are not
abbrev pub NoneOf : ℕ → List ℕ → Type 0
NoneOf h [] = Unit {0}
NoneOf h (k ∷ ks) = NoneOf h ks × (h ≡ k → ⊥)

abbrev one_of : ℕ → List ℕ → Bool
one_of h [] = false
one_of h (k ∷ ks) = eqb h k || one_of h ks

none_of : (h : ℕ) (ks : List ℕ) → NoneOf h ks → one_of h ks ≡ false
none_of h [] n = refl
none_of h (k ∷ ks) n = rw (ne_eqb h k n.1) (none_of h ks n.0)

-- the places of all words but the first, from the last down
abbrev pub taken : List ℕ
taken = 63 ∷ 62 ∷ 61 ∷ 60 ∷ 59 ∷ 58 ∷ 57 ∷ 56 ∷ 55 ∷ 54 ∷ 53 ∷ 48 ∷ 47 ∷ 46 ∷ 42 ∷ 40 ∷ 39 ∷ 38 ∷ 36 ∷ 35 ∷ 34 ∷ 30 ∷ 26 ∷ 25 ∷ 23 ∷ 22 ∷ 21 ∷ 20 ∷ 19 ∷ 18 ∷ 14 ∷ 13 ∷ 9 ∷ 6 ∷ 5 ∷ 4 ∷ 3 ∷ 2 ∷ 1 ∷ 0 ∷ []

-- everywhere else stands row 0
pub elsewhere : (h : ℕ) → h < 64 → NoneOf h taken → place_at_of h ≡ 0
unfolding places words rndf_keywords mdf_keywords boundary_words ascii
elsewhere h l n = go (one_of h taken) (none_of h taken n) (below (λ h. one_of h taken || eqb (place_at_of h) 0) 64 refl h l)
  where
    go : (x : Bool) → x ≡ false → (x || eqb (place_at_of h) 0) ≡ true → place_at_of h ≡ 0
    go true f e = clash f
    go false f e = eqb-true _ _ e
