-- Executable: JSON's strings and commas, positions and rings, as they are put; every contract cites this. Assumes nothing.
use Rattle.std.specs.Prelude.{◌∷◌, ◌++◌, ◌+◌, ◌-◌}
use Rattle.terms.specs.Words.{List, [], ℕ, zero, suc, eqb, ℤ, Bytes, ascii, pick}
use Rattle.coordinate.specs.House.{house_coordinate}
use Rattle.rows.specs.Read.{point_at_of}

-- what each of k rows, from row i on, gives
unfoldable pub each : (ℕ → Bytes) → (i k : ℕ) → Bytes
each f i zero = []
each f i (suc k) = f i ++ each f (suc i) k

-- ## Strings and lists
unfoldable pub escaped : ℕ → Bytes
escaped b = pick (eqb b 34) (ascii "\\\"") (b ∷ [])

unfoldable pub escapes : Bytes → Bytes
escapes [] = []
escapes (b ∷ s) = escaped b ++ escapes s

unfoldable pub quoted : Bytes → Bytes
quoted s = ascii "\"" ++ escapes s ++ ascii "\""

-- in front of the k-th of a list, counted from 0
unfoldable pub comma_from : ℕ → Bytes
comma_from zero = []
comma_from (suc k) = ascii ","

-- ## Positions
unfoldable pub position_at : List ℤ → ℕ → Bytes
position_at points row = ascii "[" ++ house_coordinate (point_at_of points row).longitude ++ ascii "," ++ house_coordinate (point_at_of points row).latitude ++ ascii "]"

unfoldable pub position_from : List ℤ → (first k : ℕ) → Bytes
position_from points first k = comma_from k ++ position_at points (first + k)

unfoldable pub positions : List ℤ → (first count : ℕ) → Bytes
positions points first count = each (position_from points first) 0 count

unfoldable pub position_back : List ℤ → (first count k : ℕ) → Bytes
position_back points first count k = comma_from k ++ position_at points (first + (count - 1 - k))

unfoldable pub ring : List ℤ → (first count : ℕ) → Bytes
ring points first count = each (position_back points first count) 0 count ++ ascii "," ++ position_at points (first + (count - 1))
