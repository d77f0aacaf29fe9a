-- `mend_lines::corrected` meets its contract. Assumes nothing.
use borrow.Author.Tests.{eq-eqb, ne_eqb, le-leb, lt-leb}
use Rattle.mend_lines.specs.Forward.{corrected_of}
use Rattle.mend_lines.proofs.corrected.Goals as goal
use Rattle.mend_lines.proofs.corrected.Goals.{then-n-via-then-n, then-n-via-else-n+then-m-n}

pub returns-in_default : goal.returns-in_default
unfolding corrected_of
returns-in_default c = rw c.in_default.is

pub returns-then-n : goal.returns-then-n
unfolding corrected_of
returns-then-n c = elim c.then-n.branch [
  | then-n-via-then-n w ↦ rw (c.in-Some.is, lt-leb _ 32768 w.if-n.true)
  | then-n-via-else-n+then-m-n w ↦ rw (c.in-Some.is, le-leb _ 32768 w.if-n.false, eq-eqb _ _ w.if-m-n.true)
]

pub returns : goal.returns
unfolding corrected_of
returns c = rw (c.in-Some.is, le-leb _ 32768 c.if-n.false, ne_eqb _ _ c.if-m-n.false)
