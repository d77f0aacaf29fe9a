-- `column::place_behind` meets its contract. Assumes nothing.
use mathlib.Core.Path.{ap, ◌∙◌}
use Rattle.column.proofs.Places.{standing, behind-so}
use Rattle.column.proofs.place_behind.Goals as goal

pub returns-in-Err : goal.returns-in-Err
returns-in-Err c = ap standing (rw c.in-Err.is at (c.walk_lines-walked.ensures c.requires)) ∙ behind-so c.args.text.now _

pub returns-in-Ok : goal.returns-in-Ok
returns-in-Ok c = ap standing (rw c.in-Ok.is at (c.walk_lines-walked.ensures c.requires)) ∙ behind-so c.args.text.now _
