-- What callers cite of the keywords: each list's words differ, each can be a field, none begins with a digit. Assumes nothing.
use mathlib.Core.Path.{◌≡◌, refl, ap, ◌∙◌}
use mathlib.Core.List.{[]}
use mathlib.Core.Bool.{true, false, not}
use Prim.Native.Nat.{ℕ, ◌<◌}
use native.Mathlib.Omega.{arith}
use borrow.Author.Tests.{not-true}
use lib.ListN.{length, get_or}
use Rattle.terms.specs.Ascii.{Bytes, ascii}
use Rattle.terms.proofs.Computed.{below}
use Rattle.scan.specs.Allowed.{field_byte, all}
use Rattle.scan.specs.Reach.{begins, same_bytes_of}
use Rattle.word.specs.Keywords.{rndf_keywords, mdf_keywords, boundary_words, ShortField}
use Rattle.word.specs.Number.{index_of, digit_first}
use Rattle.word.specs.Table.{words, word_at}
use Rattle.word.proofs.Index.{all_differ, own-place, word-index, index_word}
use Rattle.word.proofs.Rows.{row_word, found-size, rndf_in-row, mdf_in-row, boundary_in-row}

pub rndf-length : length rndf_keywords ≡ 29
unfolding rndf_keywords
rndf-length = refl

pub mdf-length : length mdf_keywords ≡ 11
unfolding mdf_keywords
mdf-length = refl

pub boundary-length : length boundary_words ≡ 4
unfolding boundary_words
boundary-length = refl

-- no word stands twice in its list
pub rndf-differ : all_differ rndf_keywords ≡ true
unfolding rndf_keywords ascii index_of same_bytes_of
rndf-differ = refl

pub mdf-differ : all_differ mdf_keywords ≡ true
unfolding mdf_keywords ascii index_of same_bytes_of
mdf-differ = refl

pub boundary-differ : all_differ boundary_words ≡ true
unfolding boundary_words ascii index_of same_bytes_of
boundary-differ = refl

-- a keyword's number is k exactly where the field is the k-th keyword
module _ (k : ℕ) (h : k < 29) where
  pub rndf-own : index_of (get_or rndf_keywords k []) rndf_keywords ≡ k
  rndf-own = own-place rndf_keywords rndf-differ k (omega (arith, rndf-length))

  pub rndf-all : (s : Bytes) → s ≡ get_or rndf_keywords k [] → index_of s rndf_keywords ≡ k
  rndf-all = word-index rndf_keywords rndf-differ k (omega (arith, rndf-length))

  pub rndf-only : (s : Bytes) → index_of s rndf_keywords ≡ k → s ≡ get_or rndf_keywords k []
  rndf-only s e = index_word s rndf_keywords (omega (arith, rndf-length)) ∙ ap (λ (j : ℕ). get_or rndf_keywords j []) e

module _ (k : ℕ) (h : k < 11) where
  pub mdf-own : index_of (get_or mdf_keywords k []) mdf_keywords ≡ k
  mdf-own = own-place mdf_keywords mdf-differ k (omega (arith, mdf-length))

  pub mdf-all : (s : Bytes) → s ≡ get_or mdf_keywords k [] → index_of s mdf_keywords ≡ k
  mdf-all = word-index mdf_keywords mdf-differ k (omega (arith, mdf-length))

  pub mdf-only : (s : Bytes) → index_of s mdf_keywords ≡ k → s ≡ get_or mdf_keywords k []
  mdf-only s e = index_word s mdf_keywords (omega (arith, mdf-length)) ∙ ap (λ (j : ℕ). get_or mdf_keywords j []) e

-- every word of the table can be a field: one test, computed over all rows
row-allowed : (k : ℕ) → k < 41 → all field_byte (word_at k) ≡ true
unfolding words rndf_keywords mdf_keywords boundary_words ascii all
row-allowed k h = below (λ k. all field_byte (word_at k)) 41 refl k h

row-no-digit : (k : ℕ) → k < 41 → digit_first (word_at k) ≡ false
unfolding words rndf_keywords mdf_keywords boundary_words ascii begins
row-no-digit k h = not-true _ (below (λ k. not (digit_first (word_at k))) 41 refl k h)

module _ (s : Bytes) (h : index_of s words < 41) where
  word-field : ShortField s
  word-field =
      record {
        some = omega (arith, (found-size s h).low);
        short = (found-size s h).high;
        allowed = ap (all field_byte) (row_word s h) ∙ row-allowed (index_of s words) h;
      }

  word-no-digit : digit_first s ≡ false
  word-no-digit = ap digit_first (row_word s h) ∙ row-no-digit (index_of s words) h

-- so a field that is a keyword, or a boundary word ..
module _ (s : Bytes) where
  pub rndf-field : index_of s rndf_keywords < 29 → ShortField s
  rndf-field h = word-field s (rndf_in-row s (omega (arith, rndf-length)))

  pub mdf-field : index_of s mdf_keywords < 11 → ShortField s
  mdf-field h = word-field s (mdf_in-row s (omega (arith, mdf-length)))

  pub boundary-field : index_of s boundary_words < 4 → ShortField s
  boundary-field h = word-field s (boundary_in-row s (omega (arith, boundary-length)))

  -- .. does not begin with a digit
  pub rndf-no-digit : index_of s rndf_keywords < 29 → digit_first s ≡ false
  rndf-no-digit h = word-no-digit s (rndf_in-row s (omega (arith, rndf-length)))

  pub mdf-no-digit : index_of s mdf_keywords < 11 → digit_first s ≡ false
  mdf-no-digit h = word-no-digit s (mdf_in-row s (omega (arith, mdf-length)))

  pub boundary-no-digit : index_of s boundary_words < 4 → digit_first s ≡ false
  boundary-no-digit h = word-no-digit s (boundary_in-row s (omega (arith, boundary-length)))

-- and so it is of the k-th keyword itself
module _ (k : ℕ) where
  pub rndf-word-field : k < 29 → ShortField (get_or rndf_keywords k [])
  rndf-word-field h = rndf-field (get_or rndf_keywords k []) (rw (rndf-own k h) h)

  pub rndf-word-no-digit : k < 29 → digit_first (get_or rndf_keywords k []) ≡ false
  rndf-word-no-digit h = rndf-no-digit (get_or rndf_keywords k []) (rw (rndf-own k h) h)

  pub mdf-word-field : k < 11 → ShortField (get_or mdf_keywords k [])
  mdf-word-field h = mdf-field (get_or mdf_keywords k []) (rw (mdf-own k h) h)

  pub mdf-word-no-digit : k < 11 → digit_first (get_or mdf_keywords k []) ≡ false
  mdf-word-no-digit h = mdf-no-digit (get_or mdf_keywords k []) (rw (mdf-own k h) h)
