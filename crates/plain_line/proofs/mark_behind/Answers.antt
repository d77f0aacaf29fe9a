-- `plain_line::mark_behind` meets its contract. Assumes nothing.
use Rattle.plain_line.proofs.mark_behind.Goals as goal

-- src/lib.rt:203:1
pub returns-in-14 : goal.returns-in-14
returns-in-14 c = rw c.in-14.is c.checkpoint_behind.ensures

-- src/lib.rt:203:1
pub returns-in-15 : goal.returns-in-15
returns-in-15 c = rw c.in-15.is c.stop_behind.ensures

-- src/lib.rt:203:1
pub returns-in-16 : goal.returns-in-16
returns-in-16 c = rw c.in-16.is c.exit_behind.ensures
