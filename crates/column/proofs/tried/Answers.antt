-- `column::tried` meets its contract. Assumes nothing.
use borrow.Author.Tests.{eq-eqb, ne_eqb}
use Rattle.column.proofs.tried.Goals as goal

pub returns-then-number-eq8 : goal.returns-then-number-eq8
returns-then-number-eq8 c = rw (eq-eqb _ 8 c.if-number-eq8.true)

pub returns-else-number-eq8 : goal.returns-else-number-eq8
returns-else-number-eq8 c = rw (ne_eqb _ 8 c.if-number-eq8.false)
