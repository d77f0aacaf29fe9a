-- `route::begins` meets its contract. Assumes nothing.
use borrow.Author.Tests.{lt-ltb, le-ltb, eq-eqb, ne_eqb}
use Rattle.route.specs.Judged.{begins}
use Rattle.route.proofs.begins.Goals as goal

pub returns-then-route-start : goal.returns-then-route-start
unfolding begins
returns-then-route-start c = rw (lt-ltb _ _ c.if-route-gt0.true, eq-eqb _ _ c.if-route-start.true)

pub returns-else-route-start : goal.returns-else-route-start
unfolding begins
returns-else-route-start c = rw (lt-ltb _ _ c.if-route-gt0.true, ne_eqb _ _ c.if-route-start.false)

pub returns-else-route-gt0 : goal.returns-else-route-gt0
unfolding begins
returns-else-route-gt0 c = rw (le-ltb _ _ c.if-route-gt0.false)
