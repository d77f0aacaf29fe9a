-- Executable: what the table of the code holds. Only the functions that read it cite this; no contract of a public function does.
-- Assumes nothing.
use Rattle.std.specs.Prelude.{◌≡◌, Bool, ◌&&◌, List, [], ◌∷◌, ◌++◌, ℕ, suc, ◌+◌, ◌-◌, ◌*◌, ◌%◌, ◌<◌, eqb, length, get_or, set, replicate, take, drop}
use Rattle.terms.specs.Ascii.{Bytes}
use Rattle.word.specs.Keywords.{rndf_keywords, mdf_keywords, boundary_words}
use Rattle.word.specs.Number.{index_of, from_one_of}
use Rattle.word.specs.Packed.{packed}
use Rattle.word.specs.declared.Word.{Word}
use Rattle.word.specs.declared.Row.{Row}

-- the words, one to a row: each keyword once, the RNDF's first, then those that only the MDF has, then the boundary words
unfoldable pub words : List Bytes
words = rndf_keywords ++ take 2 mdf_keywords ++ take 6 (drop 4 mdf_keywords) ++ boundary_words

-- the word of a row; behind the last row the empty word, which is in no list
abbrev pub word_at : ℕ → Bytes
word_at k = get_or words k []

-- what is known of a word: its size, its number in an RNDF, in an MDF, as a boundary, and its letters
abbrev pub known : Bytes → Word
known w =
    record {
      size = length w;
      in_rndf = index_of w rndf_keywords;
      in_mdf = index_of w mdf_keywords;
      as_boundary = from_one_of (index_of w boundary_words);
      first = packed (take 8 w);
      second = packed (take 8 (drop 8 w));
      third = packed (take 8 (drop 16 w));
    }

unfoldable pub known_of : ℕ → Word
known_of k = known (word_at k)

-- the same as a row of the table, and back
abbrev pub row_of : Word → Row
row_of w = record { 0 = w.size; 1 = w.in_rndf; 2 = w.in_mdf; 3 = w.as_boundary; 4 = w.first; 5 = w.second; 6 = w.third }

abbrev pub of_row_of : Row → Word
of_row_of r = record { size = r.0; in_rndf = r.1; in_mdf = r.2; as_boundary = r.3; first = r.4; second = r.5; third = r.6 }

-- the field has the size and the letters
unfoldable pub same_known_of : Bytes → Word → Bool
same_known_of s w =
    eqb (length s) w.size && (eqb (packed (take 8 s)) w.first && (eqb (packed (take 8 (drop 8 s))) w.second && eqb (packed (take 8 (drop 16 s))) w.third))

-- a field's place in the table: a sum, folded to a number below 64
abbrev pub folded_of : ℕ → ℕ → ℕ → ℕ → ℕ
folded_of n a b c = (n + 24 * a + 47 * b + 60 * c) % 64

abbrev pub place_of : Bytes → ℕ
place_of s = folded_of (length s) (get_or s 2 0) (get_or s (length s - 4) 0) (get_or s (length s - 1) 0)

-- the rows by places: zeros, and at the place of each word the word's row, counted from k
abbrev laid : ℕ → List Bytes → List ℕ → List ℕ
laid k [] t = t
laid k (w ∷ ws) t = laid (suc k) ws (set t (place_of w) k)

unfoldable pub places : List ℕ
places = laid 0 words (replicate 64 0)

abbrev pub place_at_of : ℕ → ℕ
place_at_of h = get_or places h 0

-- no other row than this can be the field's
pub record OnlyRow (s : Bytes) (row : ℕ) : Type 0 where
  pub in_table : row < 41
  pub only : index_of s words < 41 → row ≡ index_of s words
