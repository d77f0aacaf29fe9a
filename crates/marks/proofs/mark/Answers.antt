-- `marks::mark` meets its contract. Assumes nothing.
use Prim.Native.Nat.{pred, ◌%◌}
use native.Mathlib.Nat.{mod-lt, zero-lt-suc}
use borrow.Author.Tests.{le-leb, lt-leb}
use Rattle.marks.specs.Marks.{set_at, with_mark}
use Rattle.marks.proofs.Marks.{one_bit}
use Rattle.marks.proofs.Seen.{one_less}
use Rattle.marks.proofs.mark.Goals as goal
use Rattle.marks.proofs.mark.Goals.{else-number-ge1-via-else-number-ge1, else-number-ge1-via-then-number-ge1+else-number-le-LARGEST}

pub returns-then-number-le-LARGEST : goal.returns-then-number-le-LARGEST
unfolding with_mark set_at
returns-then-number-le-LARGEST c =
    let n = c.args.number in
    rw (one_less n, one_bit (pred n % 8) (mod-lt (pred n) (zero-lt-suc 7)), le-leb 1 n c.if-number-ge1.true, le-leb n 32768 c.if-number-le-LARGEST.true)

pub returns-else-number-ge1 : goal.returns-else-number-ge1
unfolding with_mark
returns-else-number-ge1 c = elim c.else-number-ge1.branch [
  | else-number-ge1-via-else-number-ge1 w ↦ rw (lt-leb 1 _ w.if-number-ge1.false)
  | else-number-ge1-via-then-number-ge1+else-number-le-LARGEST w ↦ rw (le-leb 1 _ w.if-number-ge1.true, lt-leb _ 32768 w.if-number-le-LARGEST.false)
]
