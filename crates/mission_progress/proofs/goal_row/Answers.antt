-- `mission_progress::goal_row` meets its contract. Assumes nothing.
use Rattle.mission_progress.proofs.goal_row.Goals as goal

pub returns-in_default : goal.returns-in_default
returns-in_default c = rw (← c.new.ensures, c.in_default.is)

pub returns : goal.returns
returns c = rw (← c.new.ensures, c.in-Some.is)
