-- Executable: where a scan stops. Assumes nothing.
use Rattle.std.specs.Prelude.{[], ◌∷◌, Bool, false, not, ◌&&◌, ℕ, suc, ◌+◌, drop, eqb}
use Prim.Native.Char.{code}
use Rattle.terms.specs.Ascii.{Bytes}
use Rattle.terms.specs.Words.{pick}
use Rattle.scan.specs.Allowed.{separates, outside, inside, digit}
unfoldable pub use Rattle.scan.specs.Begins.{begins, first, two, same_bytes_of}
use Rattle.scan.specs.declared.Until.{Until}
use Rattle.scan.specs.declared.Until.TheVariants.{Byte, Two, Separator, NotSeparator, NotOutside, NotInside, NotDigit}

-- how many bytes stand before the first place at which the test of what is left holds; all of them where there is none
unfoldable pub up_to : (Bytes → Bool) → Bytes → ℕ
up_to test [] = 0
up_to test (b ∷ rest) = pick (test (b ∷ rest)) 0 (suc (up_to test rest))

-- the place in s where a scan from `from` on stops
abbrev pub reach : (Bytes → Bool) → Bytes → ℕ → ℕ
reach test s from = from + up_to test (drop from s)

-- it begins with a byte that fails
unfoldable pub fails : (ℕ → Bool) → Bytes → Bool
fails test [] = false
fails test (b ∷ rest) = not (test b)

-- what a scan stops at
unfoldable pub stops_by : Until → Bytes → Bool
stops_by (Byte x) l = first x l
stops_by (Two x y) l = two x y l
stops_by Separator l = begins separates l
stops_by NotSeparator l = fails separates l
stops_by NotOutside l = fails outside l
stops_by NotInside l = fails inside l
stops_by NotDigit l = fails digit l

-- any byte but x
abbrev pub other : ℕ → ℕ → Bool
other x b = not (eqb b x)

-- a byte that is allowed outside comments and opens none
abbrev pub plain : ℕ → Bool
plain b = outside b && other (code "/") b
