-- `permitted::the_part` meets its contract. Assumes nothing.
use Rattle.permitted.proofs.Computes.{the-part-is}
use borrow.Author.Tests.{eq-eqb, ne_eqb}
use Rattle.permitted.proofs.the_part.Goals as goal

pub returns-then-m-a : goal.returns-then-m-a
returns-then-m-a c = rw (the-part-is, eq-eqb _ _ c.if-m-a.true)

pub returns-else-m-a : goal.returns-else-m-a
returns-else-m-a c = rw (the-part-is, ne_eqb _ _ c.if-m-a.false)
