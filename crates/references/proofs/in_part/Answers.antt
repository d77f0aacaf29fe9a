-- `references::in_part` meets its contract. Assumes nothing.
use native.Mathlib.Omega.{arith}
use borrow.Author.Tests.{lt-ltb, le-ltb, le-leb, lt-leb}
use Rattle.references.proofs.in_part.Goals as goal
use Rattle.references.proofs.in_part.Goals.{else-z-gt0-via-else-z-gt0, else-z-gt0-via-then-z-gt0+else-z-count}

pub returns-then-z-count : goal.returns-then-z-count
returns-then-z-count c = let a = c.args in rw (lt-ltb 0 a.z (omega arith), le-leb a.z a.count (omega arith), c.before-then-z-count.ensures)

pub returns-else-z-gt0 : goal.returns-else-z-gt0
returns-else-z-gt0 c = elim c.else-z-gt0.branch [
  | else-z-gt0-via-else-z-gt0 w ↦ rw (le-ltb 0 _ w.if-z-gt0.false)
  | else-z-gt0-via-then-z-gt0+else-z-count w ↦ rw (lt-ltb 0 c.args.z w.if-z-gt0.true, lt-leb c.args.z c.args.count w.if-z-count.false)
]
