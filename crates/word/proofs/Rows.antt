-- The rows of the code's table: what antt computes over all of them, once, and the law that each computation gives. Assumes nothing.
use mathlib.Core.Path.{◌≡◌, refl, sym, ap, ◌∙◌}
use mathlib.Core.Logic.{◌⊎◌, inl, inr}
use mathlib.Core.List.{List, []}
use mathlib.Core.Bool.{true, false, ◌&&◌}
use Prim.Native.Nat.{ℕ, ◌≤◌, ◌<◌}
use native.Mathlib.Omega.{arith}
use native.Mathlib.Nat.{eq-or-lt_of_le}
use borrow.Author.Tests.{ltb-true, leb-true}
use lib.Dec.{ltb, leb, lit<}
use lib.ListN.{length, get_or}
use Rattle.terms.specs.Ascii.{Bytes, ascii}
use Rattle.terms.specs.Words.{Between}
use Rattle.terms.proofs.Tests.{clash, both}
use Rattle.terms.proofs.Computed.{all_below, below}
use Rattle.scan.specs.Allowed.{all}
use Rattle.scan.specs.Reach.{same_bytes_of}
use Rattle.scan.proofs.Equal.{same-equal, equal-same}
use Rattle.word.specs.Keywords.{rndf_keywords, mdf_keywords, boundary_words}
use Rattle.word.specs.Number.{index_of, from_one_of}
use Rattle.word.specs.Table.{words, word_at, known_of, same_known_of, OnlyRow}
use Rattle.word.proofs.Packed.{Small, small_all, same_known}
use Rattle.word.proofs.Index.{index-most, index_word, all_differ, own-place}

pub words-length : length words ≡ 41
unfolding words rndf_keywords mdf_keywords boundary_words
words-length = refl

pub row_below : (s : Bytes) → index_of s words < 42
row_below s = omega (arith, words-length, index-most s words)

pub words-differ : all_differ words ≡ true
unfolding words rndf_keywords mdf_keywords boundary_words ascii index_of same_bytes_of
words-differ = refl

-- the word of a row is found there
pub row-own : (k : ℕ) → k < 41 → index_of (word_at k) words ≡ k
row-own k h = own-place words words-differ k (omega (arith, words-length))

-- a field that is found is the word of that row
pub row_word : (s : Bytes) → index_of s words < 41 → s ≡ word_at (index_of s words)
row_word s h = index_word s words (omega (arith, words-length))

-- no word is shorter than 4 bytes or longer than 20
pub row-size : (k : ℕ) → k < 41 → Between 4 20 (length (word_at k))
unfolding words rndf_keywords mdf_keywords boundary_words ascii
row-size k h =
    let t = both (leb 4 (length (word_at k))) (leb (length (word_at k)) 20)
    (below (λ k. leb 4 (length (word_at k)) && leb (length (word_at k)) 20) 41 refl k h) in
    record { low = leb-true _ _ t.0; high = leb-true _ _ t.1 }

pub found-size : (s : Bytes) → index_of s words < 41 → Between 4 20 (length s)
found-size s h = rw (ap length (row_word s h)) (row-size (index_of s words) h)

-- a field of another size than any word's is in no row
pub size-nowhere : (s : Bytes) → (Between 4 20 (length s) → ⊥) → 41 ≡ index_of s words
size-nowhere s n = go (eq-or-lt_of_le (index-most s words))
  where
    go : (index_of s words ≡ length words) ⊎ (index_of s words < length words) → 41 ≡ index_of s words
    go (inl q) = omega (arith, words-length)
    go (inr q) = absurd (n (found-size s (omega (arith, words-length))))

-- every letter is a byte
pub row_small : (k : ℕ) → k < 41 → Small (word_at k)
unfolding words rndf_keywords mdf_keywords boundary_words ascii all
row_small k h = small_all (word_at k) (below (λ k. all (λ b. ltb b 256) (word_at k)) 41 refl k h)

-- size and letters decide whether a field is a row's word
pub same_row : (s : Bytes) (k : ℕ) → Small s → length s ≤ 20 → k < 41 → same_known_of s (known_of k) ≡ same_bytes_of s (word_at k)
unfolding known_of
same_row s k p l h = same_known s (word_at k) p (row_small k h) l

-- with the only row at hand, one comparison decides
module _ (s : Bytes) (k : ℕ) (o : OnlyRow s k) where
  pub row_here : same_bytes_of s (word_at k) ≡ true → k ≡ index_of s words
  row_here e = sym (row-own k o.in_table) ∙ ap (λ (w : Bytes). index_of w words) (sym (same-equal s (word_at k) e))

  pub row-nowhere : same_bytes_of s (word_at k) ≡ false → 41 ≡ index_of s words
  row-nowhere e = go (eq-or-lt_of_le (index-most s words))
    where
      go : (index_of s words ≡ length words) ⊎ (index_of s words < length words) → 41 ≡ index_of s words
      go (inl q) = omega (arith, words-length)
      go (inr q) =
          let h : index_of s words < 41 = omega (arith, words-length) in
          let w : s ≡ word_at k = row_word s h ∙ ap word_at (sym (o.only h)) in
          clash (sym (equal-same s (word_at k) w) ∙ e)

pub row-behind : word_at 41 ≡ []
unfolding words rndf_keywords mdf_keywords boundary_words
row-behind = refl

-- A LIST WHOSE WORDS ALL STAND IN THE TABLE: the number of a field in it is that of its row's word. Behind the last row stands the empty word,
-- which is in no list and so stands for a field that is in no row.
module _ (ws : List Bytes) (in_table : all_below (λ j. ltb (index_of (get_or ws j []) words) 41) (length ws) ≡ true) (no-empty : index_of [] ws ≡ length ws) where
  -- a field that is in the list is in a row
  pub in_row : (s : Bytes) → index_of s ws < length ws → index_of s words < 41
  in_row s h =
      ltb-true _ _
      (ap (λ (w : Bytes). ltb (index_of w words) 41) (index_word s ws h) ∙
      below (λ j. ltb (index_of (get_or ws j []) words) 41) (length ws) in_table (index_of s ws) h)

  -- a field that is in no row is not in the list
  nowhere : (s : Bytes) → index_of s words ≡ 41 → index_of s ws ≡ length ws
  nowhere s e = go (eq-or-lt_of_le (index-most s ws))
    where
      go : (index_of s ws ≡ length ws) ⊎ (index_of s ws < length ws) → index_of s ws ≡ length ws
      go (inl q) = q
      go (inr q) = absurd (omega (arith, in_row s q))

  pub number-by-row : (s : Bytes) → index_of (word_at (index_of s words)) ws ≡ index_of s ws
  number-by-row s = go (eq-or-lt_of_le (index-most s words))
    where
      go : (index_of s words ≡ length words) ⊎ (index_of s words < length words) → index_of (word_at (index_of s words)) ws ≡ index_of s ws
      go (inl q) =
          let e : index_of s words ≡ 41 = omega (arith, words-length) in
          ap (λ (w : Bytes). index_of w ws) (ap word_at e ∙ row-behind) ∙ no-empty ∙ sym (nowhere s e)
      go (inr q) = ap (λ (w : Bytes). index_of w ws) (sym (row_word s (omega (arith, words-length))))

-- what is known of the row that the field is in is so of the field, in each of the three lists
module _ (s : Bytes) where
  pub rndf-number : index_of (word_at (index_of s words)) rndf_keywords ≡ index_of s rndf_keywords
  unfolding words rndf_keywords mdf_keywords boundary_words ascii index_of same_bytes_of
  rndf-number = number-by-row rndf_keywords refl refl s

  pub mdf-number : index_of (word_at (index_of s words)) mdf_keywords ≡ index_of s mdf_keywords
  unfolding words rndf_keywords mdf_keywords boundary_words ascii index_of same_bytes_of
  mdf-number = number-by-row mdf_keywords refl refl s

  pub boundary-number-at : from_one_of (index_of (word_at (index_of s words)) boundary_words) ≡ from_one_of (index_of s boundary_words)
  unfolding words rndf_keywords mdf_keywords boundary_words ascii index_of same_bytes_of
  boundary-number-at = ap from_one_of (number-by-row boundary_words refl refl s)

  pub rndf_in-row : index_of s rndf_keywords < length rndf_keywords → index_of s words < 41
  unfolding words rndf_keywords mdf_keywords boundary_words ascii index_of same_bytes_of
  rndf_in-row = in_row rndf_keywords refl refl s

  pub mdf_in-row : index_of s mdf_keywords < length mdf_keywords → index_of s words < 41
  unfolding words rndf_keywords mdf_keywords boundary_words ascii index_of same_bytes_of
  mdf_in-row = in_row mdf_keywords refl refl s

  pub boundary_in-row : index_of s boundary_words < length boundary_words → index_of s words < 41
  unfolding words rndf_keywords mdf_keywords boundary_words ascii index_of same_bytes_of
  boundary_in-row = in_row boundary_words refl refl s
