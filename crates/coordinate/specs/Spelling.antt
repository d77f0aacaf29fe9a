-- WHAT A READER MUST BELIEVE. Which fields spell which coordinates. Assumes nothing.
use Rattle.std.specs.Prelude.{◌≡◌, ◌++◌, ◌+◌, ◌*◌, ◌≤◌}
use Rattle.terms.specs.Words.{[], Bool, ℕ, ℤ, pos, neg_ℤ, Bytes, ascii, pick}
use Rattle.number.specs.Decimal.{decimal, padded}

-- 01: "**Coordinate**: optional `-`, 1 to 3 digits with no leading zero but a single `0`, a point, exactly six digits."
-- 01: "Its value is a signed count of millionths of a degree"; "`-0.000000` reads as 0"; "`-0.500000` is -500,000"
pub record SpellsCoordinate (field : Bytes) (value : ℤ) : Type 0 where
  pub minus : Bool
  pub degrees : ℕ
  pub millionths : ℕ
  pub three_digits : degrees ≤ 999
  pub six_digits : millionths ≤ 999999
  pub spelled : field ≡ pick minus (ascii "-") [] ++ decimal degrees ++ ascii "." ++ padded 6 millionths
  pub counted : value ≡ pick minus (neg_ℤ (pos (degrees * 1000000 + millionths))) (pos (degrees * 1000000 + millionths))
