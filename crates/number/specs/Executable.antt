-- Executable: integers and identifiers as the program reads them; the contracts cite these. Assumes nothing.
use Rattle.std.specs.Prelude.{[], ◌∷◌, Bool, false, ◌&&◌, ℕ, ◌+◌, ◌-◌, ◌*◌, length, take, drop, leb, ltb, eqb, Some, None, Option}
use Prim.Native.Char.{code}
use Rattle.terms.specs.Ascii.{Bytes}
use Rattle.terms.specs.Words.{pick}
use Rattle.scan.specs.Allowed.{digit, all}
use Rattle.scan.specs.Reach.{up_to, stops_by}
use Rattle.scan.specs.declared.Until.TheVariants.{Byte}
unfoldable pub use Rattle.number.specs.Integer.{worth, plain, plain_of, the_integer_of}
use Rattle.number.specs.declared.Id.{Id}

-- ## Digits
abbrev pub digits : Bytes → Bool
digits s = all digit s

-- digits alone, leading zeros too
unfoldable pub number_of : Bytes → Option ℕ
number_of s = pick (digits s) (Some (worth 0 s)) None

-- as the program answers: more than nine digits are no number
abbrev pub if_few : Bytes → Option ℕ → Option ℕ
if_few s n = pick (leb (length s) 9) n None

-- ## Identifiers
-- where the first dot stands; the length where there is none
abbrev pub dot : Bytes → ℕ
dot s = up_to (stops_by (Byte (code "."))) s

abbrev pub both_of : Option ℕ → Option ℕ → Option (ℕ × ℕ)
both_of (Some m) (Some n) = Some (m, n)
both_of (Some m) None = None
both_of None b = None

abbrev pub three_of : Option ℕ → Option (ℕ × ℕ) → Option Id
three_of (Some x) (Some (y, z)) = Some (record { x = x; y = y; z = z })
three_of (Some x) None = None
three_of None b = None

-- cut at the first dot
unfoldable pub the_pair_of : Bytes → Option (ℕ × ℕ)
the_pair_of s = pick (ltb (dot s) (length s)) (both_of (the_integer_of (take (dot s) s)) (the_integer_of (drop (dot s + 1) s))) None

unfoldable pub triple_of : Bytes → Option Id
triple_of s = pick (ltb (dot s) (length s)) (three_of (the_integer_of (take (dot s) s)) (the_pair_of (drop (dot s + 1) s))) None

-- ## Names
abbrev pub is_name_length_of : ℕ → Bool
is_name_length_of n = leb 1 n && leb n 128
