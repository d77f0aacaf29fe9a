use borrow.Author.Tests.{ne_eqb}
use Rattle.made_out.specs.MadeOrders.{numbered_order_of}
use Rattle.made_out.proofs.numbered_order.Goals as goal

pub returns-in-5 : goal.returns-in-5
unfolding numbered_order_of
returns-in-5 c = rw c.in-5.is

pub returns-in-8 : goal.returns-in-8
unfolding numbered_order_of
returns-in-8 c = rw c.in-8.is

pub returns-in_default : goal.returns-in_default
unfolding numbered_order_of
returns-in_default c = rw (ne_eqb _ 5 c.in_default.in_default-own.rest.0.1, ne_eqb _ 8 c.in_default.in_default-own.rest.1)
