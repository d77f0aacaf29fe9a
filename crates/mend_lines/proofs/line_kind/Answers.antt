-- `mend_lines::line_kind` meets its contract. Assumes nothing.
use mathlib.Core.Path.{sym, ◌∙◌}
use Rattle.mend_lines.proofs.Points.{point_line_of}
use Rattle.mend_lines.proofs.line_kind.Goals as goal

pub returns-then-begins_with_digit : goal.returns-then-begins_with_digit
returns-then-begins_with_digit c = sym (point_line_of _ (sym c.begins_with_digit.ensures ∙ c.if-begins_with_digit.true))
