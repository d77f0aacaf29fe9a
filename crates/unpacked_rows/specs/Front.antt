-- Executable: the tests of 27 and 28. Assumes nothing.
use Rattle.std.specs.Prelude.{◌∷◌, ◌-◌}
use Rattle.terms.specs.Words.{[], Bool, false, leb, eqb, length, drop, Bytes, pick}
use Rattle.packed_rows.specs.Walk.{walked}
use Rattle.packed_rows.specs.Points.{four_at_of}

-- L11: "27 version not 1 or no bytes", by L12 not 2
unfoldable pub version_here : Bytes → Bool
version_here [] = false
version_here (a ∷ l) = eqb a 2

-- "28 the first length is cut short or not the count of bytes behind it, or a record runs past the end"
unfoldable pub framed_here : Bytes → Bool
framed_here b = pick (leb 5 (length b)) (pick (eqb (four_at_of b 1) (length b - 5)) (walked (drop 5 b)) false) false
