-- WHAT A READER MUST BELIEVE. The house spelling of coordinates: how the writer spells them. Assumes nothing.
use Rattle.terms.specs.Words.{ℕ, suc, ℤ, pos, Bytes, ascii}
use Rattle.std.specs.Prelude.{negsuc, ◌++◌, ◌/◌, ◌%◌}
use Rattle.number.specs.Decimal.{decimal, padded}

-- so many millionths of a degree: whole degrees, a point and six digits
unfoldable pub house_degrees : ℕ → Bytes
house_degrees m = decimal (m / 1000000) ++ ascii "." ++ padded 6 (m % 1000000)

-- 01: "`0.000000` has no sign"
unfoldable pub house_coordinate : ℤ → Bytes
house_coordinate (pos m) = house_degrees m
house_coordinate (negsuc m) = ascii "-" ++ house_degrees (suc m)
