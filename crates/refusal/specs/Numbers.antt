-- Which refusal numbers say what. Document 01, "Refusal numbers". Assumes nothing.
use Rattle.std.specs.Prelude.{◌≡◌}
use Rattle.terms.specs.Words.{ℕ, Between}

-- 01: "A line's \"form\" is 2 to 9; size, room and references are apart from it."
pub data OfForm (number : ℕ) : Type 0 where
  numbered : Between 2 9 number → OfForm number
  -- L8: 25 "counts as form"
  unmarked : number ≡ 25 → OfForm number

-- 01: "then the first line with 12 or 13. Then the MDF likewise, 14 to 18 by first line"
pub record OfReference (number : ℕ) : Type 0 where
  pub numbered : Between 12 18 number
