-- Which fields spell which integers and identifiers, and which are names. Assumes nothing.
use Rattle.std.specs.Prelude.{◌≡◌, ◌++◌, ℕ, ◌≤◌}
use Rattle.terms.specs.Ascii.{Bytes, ascii}
use Rattle.terms.specs.Words.{Between}
use Rattle.number.specs.Decimal.{decimal}

-- 01: "**Integer**: 1 to 5 digits, no leading zero but `0` itself"
pub record SpellsInteger (field : Bytes) (n : ℕ) : Type 0 where
  pub spelled : field ≡ decimal n
  pub five_digits : n ≤ 99999

-- 01: "**Identifiers**: integers joined by dots": m.n
pub record SpellsPair (field : Bytes) (m n : ℕ) : Type 0 where
  pub spelled : field ≡ decimal m ++ ascii "." ++ decimal n
  pub m_five_digits : m ≤ 99999
  pub n_five_digits : n ≤ 99999

-- x.y.z
pub record SpellsTriple (field : Bytes) (x y z : ℕ) : Type 0 where
  pub spelled : field ≡ decimal x ++ ascii "." ++ decimal y ++ ascii "." ++ decimal z
  pub x_five_digits : x ≤ 99999
  pub y_five_digits : y ≤ 99999
  pub z_five_digits : z ≤ 99999

-- 01: "**Name**: 1 to 128 bytes"
abbrev pub NameLength : ℕ → Type 0
NameLength n = Between 1 128 n
