use borrow.Author.Tests.{eq-eqb, ne_eqb}
use Rattle.made_out.specs.Made.{sided_of}
use Rattle.made_out.proofs.sided.Goals as goal

pub returns-then-kind-eq12 : goal.returns-then-kind-eq12
unfolding sided_of
returns-then-kind-eq12 c = rw (eq-eqb _ _ c.if-kind-eq12.true)

pub returns-else-kind-eq12 : goal.returns-else-kind-eq12
unfolding sided_of
returns-else-kind-eq12 c = rw (ne_eqb _ _ c.if-kind-eq12.false)
