-- `answers::goal_column` meets its contract: a line that is shown is short, so its columns fit. Assumes nothing.
use native.Mathlib.Omega.{arith}
use Rattle.answers.proofs.Cases.{before-goal, goal-at-column}
use Rattle.answers.proofs.goal_column.Goals as goal

pub overflow_cast-result : goal.overflow_cast-result
overflow_cast-result c = let h = before-goal _ _ _ _ c.line_of.ensures c.not_separator_from-before.ensures in omega (arith, h)

pub overflow_add-result : goal.overflow_add-result
overflow_add-result c = let h = before-goal _ _ _ _ c.line_of.ensures c.not_separator_from-before.ensures in omega (arith, h)

pub returns : goal.returns
returns c = goal-at-column _ _ _ _ c.line_of.ensures c.not_separator_from-before.ensures
