-- `made_out::fields_needed` meets its contract. Assumes nothing.
use borrow.Author.Tests.{lt-ltb, le-ltb, ne_eqb}
use Rattle.made_out.proofs.fields_needed.Goals as goal

pub returns-in-0 : goal.returns-in-0
returns-in-0 c = rw (lt-ltb _ 30 c.if-kind-lt30.true, ← c.shape_of-shape.ensures, c.in-0.is)

pub returns-in-5 : goal.returns-in-5
returns-in-5 c = rw (lt-ltb _ 30 c.if-kind-lt30.true, ← c.shape_of-shape.ensures, c.in-5.is)

pub returns-in-7 : goal.returns-in-7
returns-in-7 c = rw (lt-ltb _ 30 c.if-kind-lt30.true, ← c.shape_of-shape.ensures, c.in-7.is)

pub returns-in-8 : goal.returns-in-8
returns-in-8 c = rw (lt-ltb _ 30 c.if-kind-lt30.true, ← c.shape_of-shape.ensures, c.in-8.is)

pub returns-in_default : goal.returns-in_default
returns-in_default c = rw (lt-ltb _ 30 c.if-kind-lt30.true, ← c.shape_of-shape.ensures, ne_eqb _ 0 c.in_default.in_default-own.rest.0.0.0.1, ne_eqb _ 5 c.in_default.in_default-own.rest.0.0.1, ne_eqb _ 7 c.in_default.in_default-own.rest.0.1, ne_eqb _ 8 c.in_default.in_default-own.rest.1)

pub returns-else-kind-lt30 : goal.returns-else-kind-lt30
returns-else-kind-lt30 c = rw (le-ltb _ 30 c.if-kind-lt30.false)
