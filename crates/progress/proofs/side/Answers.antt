use mathlib.Core.Path.{refl}
use borrow.Author.Tests.{eq-eqb, ne_eqb}
use Rattle.statement.specs.Meaning.{boundary}
use Rattle.progress.specs.After.{side_of}
use Rattle.progress.proofs.side.Goals as goal

-- src/lib.rt:102:1
pub returns-then-boundary-eq1 : goal.returns-then-boundary-eq1
unfolding side_of boundary
returns-then-boundary-eq1 c = rw (eq-eqb _ 1 c.if-boundary-eq1.true) refl

-- src/lib.rt:102:1
pub returns-then-boundary-eq2 : goal.returns-then-boundary-eq2
unfolding side_of boundary
returns-then-boundary-eq2 c = rw (ne_eqb _ 1 c.if-boundary-eq1.false, eq-eqb _ 2 c.if-boundary-eq2.true) refl

-- src/lib.rt:102:1
pub returns-then-boundary-eq3 : goal.returns-then-boundary-eq3
unfolding side_of boundary
returns-then-boundary-eq3 c = rw (ne_eqb _ 1 c.if-boundary-eq1.false, ne_eqb _ 2 c.if-boundary-eq2.false, eq-eqb _ 3 c.if-boundary-eq3.true) refl

-- src/lib.rt:102:1
pub returns-else-boundary-eq3 : goal.returns-else-boundary-eq3
unfolding side_of boundary
returns-else-boundary-eq3 c = rw (ne_eqb _ 1 c.if-boundary-eq1.false, ne_eqb _ 2 c.if-boundary-eq2.false, ne_eqb _ 3 c.if-boundary-eq3.false) refl
