-- What each answer of the program says of the field. `None` is 01's refusal 8: "field not of its kind (spelling ..)".
-- Assumes nothing.
use Rattle.std.specs.Prelude.{ℤ, Some, None, Option}
use Rattle.terms.specs.Ascii.{Bytes}
use Rattle.coordinate.specs.Spelling.{SpellsCoordinate}

unfoldable pub CoordinateMeans : Bytes → Option ℤ → Type 0
CoordinateMeans field (Some z) = SpellsCoordinate field z
CoordinateMeans field None = (z : ℤ) → SpellsCoordinate field z → ⊥
