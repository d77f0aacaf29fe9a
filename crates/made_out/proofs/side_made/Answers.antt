use borrow.Author.Tests.{eq-eqb, ne_eqb}
use Rattle.made_out.specs.Made.{side_made_of}
use Rattle.made_out.proofs.side_made.Goals as goal

pub returns-then-b-eq0 : goal.returns-then-b-eq0
unfolding side_made_of
returns-then-b-eq0 c = rw (eq-eqb _ _ c.if-b-eq0.true)

pub returns-else-b-eq0 : goal.returns-else-b-eq0
unfolding side_made_of
returns-else-b-eq0 c = rw (ne_eqb _ _ c.if-b-eq0.false, c.sided.ensures)
