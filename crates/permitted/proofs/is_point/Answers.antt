-- `permitted::is_point` meets its contract. Assumes nothing.
use Rattle.permitted.proofs.Computes.{point-is}
use borrow.Author.Tests.{eq-eqb, ne_eqb}
use Rattle.permitted.proofs.is_point.Goals as goal

pub returns-then-n-i : goal.returns-then-n-i
returns-then-n-i c = rw (point-is, eq-eqb _ _ c.if-m-i.true, eq-eqb _ _ c.if-n-i.true)

pub returns-else-n-i : goal.returns-else-n-i
returns-else-n-i c = rw (point-is, eq-eqb _ _ c.if-m-i.true, ne_eqb _ _ c.if-n-i.false)

pub returns-else-m-i : goal.returns-else-m-i
returns-else-m-i c = rw (point-is, ne_eqb _ _ c.if-m-i.false)
