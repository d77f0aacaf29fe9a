-- WHAT A READER MUST BELIEVE. Which bytes are an integer, and which one, as a function: for mending (L9). They are those of Decimal (proofs/Integers). Assumes nothing.
use Rattle.std.specs.Prelude.{◌∷◌, ◌+◌, ◌-◌, ◌*◌, Some, None, Option}
use Rattle.terms.specs.Words.{[], Bool, false, ℕ, code, length, eqb, leb, Bytes, pick}
use Rattle.scan.specs.Allowed.{digit, all}

-- what digits are worth behind v
unfoldable pub worth : ℕ → Bytes → ℕ
worth v [] = v
worth v (b ∷ t) = worth (v * 10 + (b - code "0")) t

-- digits with no zero in front, but a single zero
unfoldable pub plain : Bytes → Bool
plain [] = false
plain (b ∷ t) = pick (eqb b (code "0")) (eqb (length t) 0) (all digit (b ∷ t))

unfoldable pub plain_of : Bytes → Option ℕ
plain_of s = pick (plain s) (Some (worth 0 s)) None

-- 01: "**Integer**: 1 to 5 digits, no leading zero but `0` itself"
unfoldable pub the_integer_of : Bytes → Option ℕ
the_integer_of s = pick (leb (length s) 5) (plain_of s) None
