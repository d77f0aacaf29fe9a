-- Executable: letters as one number, the first of them the lowest byte. Assumes nothing.
use Rattle.std.specs.Prelude.{[], ◌∷◌, ℕ, ◌+◌, ◌*◌}
use Rattle.terms.specs.Ascii.{Bytes}

unfoldable pub packed : Bytes → ℕ
packed [] = 0
packed (b ∷ rest) = b + 256 * packed rest
