-- `made_out::order_of_kind` meets its contract. Assumes nothing.
use mathlib.Core.Path.{ap, ◌∙◌}
use borrow.Author.Tests.{ne_eqb}
use Rattle.number.specs.Executable.{the_integer_of}
use Rattle.made_out.specs.MadeOrders.{order_made_of}
use Rattle.made_out.proofs.order_of_kind.Goals as goal

pub returns-in-0 : goal.returns-in-0
unfolding order_made_of
returns-in-0 c = rw (← c.order_shape-shape.ensures, c.in-0.is, c.bare_order.ensures)

pub returns-in-1 : goal.returns-in-1
unfolding order_made_of
returns-in-1 c = rw (← c.order_shape-shape.ensures, c.in-1.is) c.name_ordered.ensures

pub returns-in-2 : goal.returns-in-2
unfolding order_made_of
returns-in-2 c = rw (← c.order_shape-shape.ensures, c.in-2.is, ← (c.integer_of.ensures ∙ ap the_integer_of c.field.ensures)) c.number_ordered.ensures

pub returns-in-3 : goal.returns-in-3
unfolding order_made_of
returns-in-3 c = rw (← c.order_shape-shape.ensures, c.in-3.is, ← (c.integer_of-in-3.ensures ∙ ap the_integer_of c.field-in-3.ensures)) c.number_ordered-in-3.ensures

pub returns-in_default : goal.returns-in_default
unfolding order_made_of
returns-in_default c = rw (← c.order_shape-shape.ensures, ne_eqb _ 0 c.in_default.in_default-own.rest.0.0.0.1, ne_eqb _ 1 c.in_default.in_default-own.rest.0.0.1, ne_eqb _ 2 c.in_default.in_default-own.rest.0.1, ne_eqb _ 3 c.in_default.in_default-own.rest.1, ← (c.integer_of-in_default.ensures ∙ ap the_integer_of c.field-in_default.ensures), ← (c.integer_of-in_default-2.ensures ∙ ap the_integer_of c.field-in_default-2.ensures), ← (c.integer_of-in_default-3.ensures ∙ ap the_integer_of c.field-in_default-3.ensures)) c.limit_ordered.ensures
