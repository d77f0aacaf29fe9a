-- `progress::feet` meets its contract. Assumes nothing.
use mathlib.Core.Path.{sym, ap, ◌∙◌}
use Rattle.progress.specs.After.{width_read, width_of}
use Rattle.progress.proofs.feet.Goals as goal

pub returns-in-Some : goal.returns-in-Some
unfolding width_of
returns-in-Some c = ap width_read (sym c.in-Some.is ∙ c.new.ensures)

pub returns-in-None : goal.returns-in-None
unfolding width_of
returns-in-None c = c.missing.ensures ∙ ap width_read (sym c.in-None.is ∙ c.new.ensures)
