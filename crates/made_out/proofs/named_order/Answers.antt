use borrow.Author.Tests.{ne_eqb}
use Rattle.made_out.specs.MadeOrders.{named_order_of}
use Rattle.made_out.proofs.named_order.Goals as goal

pub returns-in-0 : goal.returns-in-0
unfolding named_order_of
returns-in-0 c = rw c.in-0.is

pub returns-in-1 : goal.returns-in-1
unfolding named_order_of
returns-in-1 c = rw c.in-1.is

pub returns-in-2 : goal.returns-in-2
unfolding named_order_of
returns-in-2 c = rw c.in-2.is

pub returns-in_default : goal.returns-in_default
unfolding named_order_of
returns-in_default c = rw (ne_eqb _ 0 c.in_default.in_default-own.rest.0.0.1, ne_eqb _ 1 c.in_default.in_default-own.rest.0.1, ne_eqb _ 2 c.in_default.in_default-own.rest.1)
