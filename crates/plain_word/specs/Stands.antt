-- A keyword or a boundary word that stands in a text, and what a row of the code's tables holds. Assumes nothing.
use Rattle.std.specs.Prelude.{◌≡◌, [], Bool, true, false, ℕ, ◌+◌, ◌-◌, ◌≤◌, ◌<◌, ltb, length, get_or, take, drop, Some, None, Option}
use Rattle.terms.specs.Ascii.{Bytes}
use Rattle.terms.specs.Words.{pick}
use Rattle.word.specs.Keywords.{rndf_keywords, boundary_of, Boundary}
use Rattle.word.specs.Packed.{packed}
use Rattle.plain_word.specs.declared.Row.{Row}

-- the k-th keyword stands in the text from a place up to another
pub record KeywordAt (s : Bytes) (from stop k : ℕ) : Type 0 where
  pub order : from < stop
  pub inside : stop ≤ length s
  pub known : k < 29
  pub word : take (stop - from) (drop from s) ≡ get_or rndf_keywords k []

-- the word of a boundary does
pub record BoundaryAt (s : Bytes) (from stop b : ℕ) : Type 0 where
  pub order : from < stop
  pub inside : stop ≤ length s
  pub boundary : Boundary b (take (stop - from) (drop from s))

-- what an answer says; `None` says nothing
abbrev pub KeywordStands : Bytes → ℕ → Option (ℕ × ℕ) → Type 0
KeywordStands s from (Some (k, stop)) = KeywordAt s from stop k
KeywordStands s from None = Unit {0}

abbrev pub BoundaryStands : Bytes → ℕ → Option (ℕ × ℕ) → Type 0
BoundaryStands s from (Some (b, stop)) = BoundaryAt s from stop b
BoundaryStands s from None = Unit {0}

-- ## The tables
-- the word with a number: a keyword, and from 29 on a boundary word
abbrev pub word_of : ℕ → Bytes
word_of k = pick (ltb k 29) (get_or rndf_keywords k []) (boundary_of (k - 28))

-- so many letters are compared at a time
abbrev pub at_once : Bytes → ℕ
at_once w = pick (ltb (length w) 8) 4 8

-- a word with its number: its size, its first letters and its last
abbrev pub row_for : ℕ → ℕ → Bytes → Row
row_for k d w =
    record {
      0 = k;
      1 = length w;
      2 = packed (take d w);
      3 = packed (take d (drop (length w - d) w));
    }

unfoldable pub row_of : ℕ → Row
row_of k = row_for k (at_once (word_of k)) (word_of k)

-- the ninth to sixteenth letter of num_perimeterpoints
unfoldable pub middle : ℕ
middle = packed (take 8 (drop 8 (word_of 23)))

-- a row of a table is that of its word
pub record IsRow (r : Row) : Type 0 where
  pub known : r.0 < 33
  pub holds : r ≡ row_of r.0

-- they stand behind the eighth byte from a place on, where a word has such and it is said so
abbrev pub MiddleStands : Bytes → ℕ → ℕ → Bool → Type 0
MiddleStands s from size true = 16 < size → packed (take 8 (drop (from + 8) s)) ≡ middle
MiddleStands s from size false = Unit {0}

-- the row's word stands in a text of bytes from a place on, where it is said so
abbrev pub RowStands : Bytes → ℕ → Row → Bool → Type 0
RowStands s from r true = ((i : ℕ) → get_or s i 0 < 256) → take r.1 (drop from s) ≡ word_of r.0
RowStands s from r false = Unit {0}
