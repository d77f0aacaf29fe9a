-- `references::resolve` meets its contract. Assumes nothing.
use borrow.Author.Tests.{eq-eqb, ne_eqb}
use Rattle.fill.specs.Resolve as Resolve
use Rattle.references.proofs.resolve.Goals as goal

pub returns-then-e-eq0 : goal.returns-then-e-eq0
unfolding Resolve.resolve
returns-then-e-eq0 c = rw (eq-eqb _ 0 c.if-e-eq0.true) c.border_row.ensures

pub returns-else-e-eq0 : goal.returns-else-e-eq0
unfolding Resolve.resolve
returns-else-e-eq0 c = rw (ne_eqb _ 0 c.if-e-eq0.false) c.waypoint_row.ensures
