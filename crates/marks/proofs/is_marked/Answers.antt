-- `marks::is_marked` meets its contract. Assumes nothing.
use borrow.Author.Tests.{le-leb, lt-leb}
use Rattle.marks.specs.Marks.{mark_at, is_marked_of}
use Rattle.marks.proofs.Seen.{one_less}
use Rattle.marks.proofs.is_marked.Goals as goal
use Rattle.marks.proofs.is_marked.Goals.{else-number-ge1-via-else-number-ge1, else-number-ge1-via-then-number-ge1+else-number-le-LARGEST}

pub returns-then-number-le-LARGEST : goal.returns-then-number-le-LARGEST
unfolding is_marked_of mark_at
returns-then-number-le-LARGEST c = rw (one_less c.args.number, le-leb 1 _ c.if-number-ge1.true, le-leb _ 32768 c.if-number-le-LARGEST.true)

pub returns : goal.returns
unfolding is_marked_of
returns c = elim c.else-number-ge1.branch [
  | else-number-ge1-via-else-number-ge1 w ↦ rw (lt-leb 1 _ w.if-number-ge1.false)
  | else-number-ge1-via-then-number-ge1+else-number-le-LARGEST w ↦ rw (le-leb 1 _ w.if-number-ge1.true, lt-leb _ 32768 w.if-number-le-LARGEST.false)
]
