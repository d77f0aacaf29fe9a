-- `mission_progress::mission_row` meets its contract. Assumes nothing.
use mathlib.Core.Path.{sym}
use borrow.Enum.Refused.{opened}
use Rattle.mission_progress.specs.Progress.{mission_row_of}
use Rattle.mission_progress.proofs.Rest.{no_row}
use Rattle.mission_progress.proofs.mission_row.Goals as goal

pub returns-in-Goal : goal.returns-in-Goal
unfolding mission_row_of
returns-in-Goal c = rw c.in-Goal.is c.goal_row.ensures

pub returns-in-Limit : goal.returns-in-Limit
unfolding mission_row_of
returns-in-Limit c = rw c.in-Limit.is c.limit_row.ensures

pub returns-in_default : goal.returns-in_default
unfolding mission_row_of
returns-in_default c = sym (no_row c.args.o (opened c.in_default.in_default-own.keys3))
