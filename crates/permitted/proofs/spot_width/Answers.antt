-- `permitted::spot_width` meets its contract. Assumes nothing.
use Rattle.permitted.proofs.Computes.{counted_is, at-most-is}
use borrow.Author.Tests.{le-leb, lt-leb}
use Rattle.permitted.proofs.spot_width.Goals as goal

pub returns-then-n-ge1 : goal.returns-then-n-ge1
returns-then-n-ge1 c = rw (counted_is, le-leb 1 _ c.if-n-ge1.true, ← at-most-is) c.lane_width.ensures

pub returns-else-n-ge1 : goal.returns-else-n-ge1
returns-else-n-ge1 c = rw (counted_is, lt-leb 1 _ c.if-n-ge1.false)
