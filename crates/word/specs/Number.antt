-- Executable: the number of a word in a list of words, the number of a boundary word, and the test of a first digit. Assumes nothing.
use Rattle.std.specs.Prelude.{List, [], ◌∷◌, Bool, ℕ, suc, ltb}
use Rattle.terms.specs.Ascii.{Bytes}
use Rattle.terms.specs.Words.{pick}
use Rattle.scan.specs.Allowed.{digit}
use Rattle.scan.specs.Reach.{begins, same_bytes_of}
use Rattle.word.specs.Keywords.{boundary_words}

-- the place of the first word that is s, from 0; how many there are, where none is
unfoldable pub index_of : Bytes → List Bytes → ℕ
index_of s [] = 0
index_of s (w ∷ ws) = pick (same_bytes_of s w) 0 (suc (index_of s ws))

-- a place among the four boundary words, counted from 1; 0 for none
abbrev pub from_one_of : ℕ → ℕ
from_one_of i = pick (ltb i 4) (suc i) 0

-- 1 to 4 for a boundary word, 0 for any other field
unfoldable pub boundary_number : Bytes → ℕ
boundary_number s = from_one_of (index_of s boundary_words)

-- the field's first byte is a digit
abbrev pub digit_first : Bytes → Bool
digit_first s = begins digit s
