-- Executable: coordinates as the program reads them; the contracts cite these. Assumes nothing.
use Rattle.std.specs.Prelude.{Bool, ◌&&◌, ◌+◌, ◌-◌, ◌*◌, ◌≤◌, length, get_or, take, drop, leb, eqb, ℕ, ℤ, Some, None, Option}
use Prim.Native.Char.{code}
use Rattle.terms.specs.Ascii.{Bytes}
use Rattle.terms.specs.Words.{pick}
use Rattle.number.specs.Executable.{number_of, plain_of}
use Rattle.coordinate.specs.Sign.{signed}

-- whole degrees and millionths, together
abbrev pub joined : Option ℕ → Option ℕ → Option ℕ
joined (Some a) (Some b) = Some (a * 1000000 + b)
joined (Some a) None = None
joined None n = None

-- 1 to 3 digits, a point and six digits: the point can only be the seventh byte from the end
unfoldable pub the_millionths_of : Bytes → Option ℕ
the_millionths_of s =
    pick (leb 8 (length s) && (leb (length s) 10 && eqb (get_or s (length s - 7) 0) (code ".")))
    (joined (plain_of (take (length s - 7) s)) (number_of (drop (length s - 7 + 1) s)))
    None

-- what the sign's function asks of a count of millionths: it fits nine digits
abbrev pub Small : Option ℕ → Type 0
Small (Some m) = m ≤ 999999999
Small None = Unit {0}

abbrev pub with_sign : Bool → Option ℕ → Option ℤ
with_sign minus (Some m) = Some (signed minus m)
with_sign minus None = None

-- a minus comes first
abbrev pub minus_first : Bytes → Bool
minus_first s = eqb (get_or s 0 0) (code "-")

unfoldable pub the_coordinate_of : Bytes → Option ℤ
the_coordinate_of s = with_sign (minus_first s) (the_millionths_of (pick (minus_first s) (drop 1 s) s))
