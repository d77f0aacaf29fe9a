-- Executable: the lines of a text, a line without its CR (from Cutting); lines written one behind the other. Assumes nothing.
use Rattle.std.specs.Prelude.{List, [], ◌∷◌, ◌++◌, ℕ, ◌-◌, length, get_or, eqb, ltb}
use Rattle.terms.specs.Ascii.{Bytes}
use Rattle.terms.specs.Words.{pick}
use Rattle.line.specs.Text.{lf, cr}
pub use Rattle.line.specs.Cutting.{onto}
unfoldable pub use Rattle.line.specs.Cutting.{lines_of, drop_cr}

-- each line with an LF behind it
unfoldable pub write_lines : List Bytes → Bytes
write_lines [] = []
write_lines (l ∷ lines) = l ++ (lf ∷ write_lines lines)

-- how long a line is without its CR
unfoldable pub trim_of : Bytes → ℕ
trim_of l = pick (ltb 0 (length l)) (pick (eqb (get_or l (length l - 1) 0) cr) (length l - 1) (length l)) 0
