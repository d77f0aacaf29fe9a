-- `answers::goal_number` meets its contract: the number of the row. Assumes nothing.
use mathlib.Core.Path.{ap}
use Rattle.rows.specs.declared.GoalRow.{GoalRow}
use Rattle.answers.specs.Answers.{goal_number_of}
use Rattle.answers.proofs.goal_number.Goals as goal

pub returns : goal.returns
unfolding goal_number_of
returns c = ap (λ (g : GoalRow). g.number.0) c.goal_at-goal.ensures
