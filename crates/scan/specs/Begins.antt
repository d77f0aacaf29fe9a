-- WHAT A READER MUST BELIEVE. How bytes begin, and whether they are the same; for mending (L9), which goes by lines that no reader takes. Assumes nothing.
use Rattle.std.specs.Prelude.{◌∷◌, ◌&&◌}
use Rattle.terms.specs.Words.{[], Bool, true, false, ℕ, eqb, Bytes}

-- it begins with a byte that passes
unfoldable pub begins : (ℕ → Bool) → Bytes → Bool
begins test [] = false
begins test (b ∷ rest) = test b

-- it begins with x; with x and y
unfoldable pub first : ℕ → Bytes → Bool
first x [] = false
first x (b ∷ rest) = eqb b x

unfoldable pub two : ℕ → ℕ → Bytes → Bool
two x y [] = false
two x y (b ∷ rest) = eqb b x && first y rest

-- byte for byte
unfoldable pub same_bytes_of : Bytes → Bytes → Bool
same_bytes_of [] [] = true
same_bytes_of [] (b ∷ m) = false
same_bytes_of (a ∷ l) [] = false
same_bytes_of (a ∷ l) (b ∷ m) = eqb a b && same_bytes_of l m
