-- `made_out::order_fields_needed` meets its contract. Assumes nothing.
use borrow.Author.Tests.{lt-ltb, le-ltb, ne_eqb}
use Rattle.made_out.proofs.order_fields_needed.Goals as goal

pub returns-in-0 : goal.returns-in-0
returns-in-0 c = rw (lt-ltb _ 13 c.if-kind-lt13.true, ← c.order_shape-shape.ensures, c.in-0.is)

pub returns-in-3 : goal.returns-in-3
returns-in-3 c = rw (lt-ltb _ 13 c.if-kind-lt13.true, ← c.order_shape-shape.ensures, c.in-3.is)

pub returns-in-4 : goal.returns-in-4
returns-in-4 c = rw (lt-ltb _ 13 c.if-kind-lt13.true, ← c.order_shape-shape.ensures, c.in-4.is)

pub returns-in_default : goal.returns-in_default
returns-in_default c = rw (lt-ltb _ 13 c.if-kind-lt13.true, ← c.order_shape-shape.ensures, ne_eqb _ 0 c.in_default.in_default-own.rest.0.0.1, ne_eqb _ 3 c.in_default.in_default-own.rest.0.1, ne_eqb _ 4 c.in_default.in_default-own.rest.1)

pub returns-else-kind-lt13 : goal.returns-else-kind-lt13
returns-else-kind-lt13 c = rw (le-ltb _ 13 c.if-kind-lt13.false)
