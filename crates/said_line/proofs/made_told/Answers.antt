-- `said_line::made_told` meets its contract. Assumes nothing.
use Rattle.said_line.proofs.made_told.Goals as goal

pub returns : goal.returns
returns c = rw c.in-Some.is
