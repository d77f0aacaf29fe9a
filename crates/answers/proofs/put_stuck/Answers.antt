-- `answers::put_stuck` meets its contract: the goal's line and column, and what is put of them. Assumes nothing.
use Rattle.output.proofs.Writing.{same}
use Rattle.answers.proofs.Cases.{stuck_there}
use Rattle.answers.proofs.put_stuck.Goals as goal

pub returns : goal.returns
returns c =
    same (stuck_there _ _ _ _ _ _ _ c.goal_line-line.ensures c.goal_column-column.ensures) c.put_stuck_at.ensures
