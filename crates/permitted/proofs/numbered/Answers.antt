-- `permitted::numbered` meets its contract. Assumes nothing.
use Rattle.permitted.proofs.Computes.{numbered_is}
use borrow.Author.Tests.{le-leb, lt-leb}
use Rattle.permitted.proofs.numbered.Goals as goal

pub returns-then-first-n : goal.returns-then-first-n
returns-then-first-n c = rw (numbered_is, le-leb _ _ c.if-first-n.true)

pub returns-else-first-n : goal.returns-else-first-n
returns-else-first-n c = rw (numbered_is, lt-leb _ _ c.if-first-n.false)
