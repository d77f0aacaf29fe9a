-- `permitted::counted` meets its contract. Assumes nothing.
use Rattle.permitted.proofs.Computes.{counted_is}
use borrow.Author.Tests.{le-leb, lt-leb}
use Rattle.permitted.proofs.counted.Goals as goal

pub returns-then-n-ge1 : goal.returns-then-n-ge1
returns-then-n-ge1 c = rw (counted_is, le-leb 1 _ c.if-n-ge1.true)

pub returns-else-n-ge1 : goal.returns-else-n-ge1
returns-else-n-ge1 c = rw (counted_is, lt-leb 1 _ c.if-n-ge1.false)
