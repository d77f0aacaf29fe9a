-- WHAT A READER MUST BELIEVE. The house spelling of integers and identifiers: how the writer spells them. Assumes nothing.
use Rattle.std.specs.Prelude.{Bool, ◌||◌, ◌++◌, ℕ, eqb}
use Prim.Native.Char.{code}
use Rattle.terms.specs.Ascii.{Bytes, ascii}
use Rattle.scan.specs.Allowed.{digit}
use Rattle.number.specs.Decimal.{decimal}

-- what these and the coordinates are made of: a digit, a dot or a minus
abbrev pub number_byte : ℕ → Bool
number_byte b = digit b || (eqb b (code ".") || eqb b (code "-"))

-- 01: "no leading zero but `0` itself"
unfoldable pub house_integer : ℕ → Bytes
house_integer n = decimal n

-- 01: "integers joined by dots"
unfoldable pub house_pair : ℕ → ℕ → Bytes
house_pair m n = decimal m ++ ascii "." ++ decimal n

unfoldable pub house_triple : ℕ → ℕ → ℕ → Bytes
house_triple x y z = decimal x ++ ascii "." ++ decimal y ++ ascii "." ++ decimal z
