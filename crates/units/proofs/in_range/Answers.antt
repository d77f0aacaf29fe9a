-- `units::in_range` meets its contract. Assumes nothing.
use borrow.Author.Tests.{le-leb, lt-leb}
use Rattle.units.specs.Made.{in_range_of}
use Rattle.units.proofs.in_range.Goals as goal
use Rattle.units.proofs.in_range.Goals.{else-least-n-via-then-least-n+else-n-largest, else-least-n-via-else-least-n}

pub returns-then-n-largest : goal.returns-then-n-largest
unfolding in_range_of
returns-then-n-largest c = rw (le-leb _ _ c.if-least-n.true, le-leb _ _ c.if-n-largest.true)

pub returns-else-least-n : goal.returns-else-least-n
unfolding in_range_of
returns-else-least-n c = elim c.else-least-n.branch [ else-least-n-via-then-least-n+else-n-largest w ↦ rw (le-leb _ _ w.if-least-n.true, lt-leb _ _ w.if-n-largest.false) | else-least-n-via-else-least-n w ↦ rw (lt-leb _ _ w.if-least-n.false) ]
