-- `output::finish` meets its contract. Assumes nothing.
use mathlib.Core.Path.{sym, ◌∙◌}
use Rattle.output.proofs.Whole.{finishes-kept, finishes_zero}
use Rattle.output.proofs.finish.Goals as goal

pub returns-then-is_within : goal.returns-then-is_within
returns-then-is_within c = finishes-kept _ _ (sym c.is_within.ensures ∙ c.if-is_within.true)

pub returns : goal.returns
returns c = finishes_zero _ _ (sym c.is_within.ensures ∙ c.if-is_within.false) c.clear_output.ensures
