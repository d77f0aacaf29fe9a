-- `yard_reach::spot_point` meets its contract. Assumes nothing.
use Rattle.std.proofs.Common.{arith}
use borrow.Author.Tests.{lt-ltb, le-ltb, le-leb, lt-leb}
use Rattle.yard_reach.proofs.spot_point.Goals as goal

pub returns-then-z-le2 : goal.returns-then-z-le2
returns-then-z-le2 c = rw (lt-ltb 0 c.args.z (omega arith), le-leb c.args.z 2 (omega arith), c.before-then-z-le2.ensures)

pub returns-else-z-le2 : goal.returns-else-z-le2
returns-else-z-le2 c = rw (lt-ltb 0 c.args.z (omega arith), lt-leb c.args.z 2 (omega arith))

pub returns-else-z-gt0 : goal.returns-else-z-gt0
returns-else-z-gt0 c = rw (le-ltb 0 _ c.if-z-gt0.false)
