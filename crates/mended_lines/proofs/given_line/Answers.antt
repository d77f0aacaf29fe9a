-- `mended_lines::given_line` meets its contract: the law of the numbers. Assumes nothing.
use mathlib.Core.Path.{◌∙◌}
use Rattle.mended_lines.proofs.Numbers.{given-some, given-none}
use Rattle.mended_lines.proofs.given_line.Goals as goal

pub returns-then-wanted-eq0 : goal.returns-then-wanted-eq0
returns-then-wanted-eq0 c = given-none _ _ c.if-wanted-eq0.true

pub returns : goal.returns
returns c = c.line_behind.ensures ∙ given-some _ _ c.if-wanted-eq0.false
