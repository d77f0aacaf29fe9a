use borrow.Author.Tests.{ne_eqb}
use Rattle.made_out.specs.MadeOrders.{bare_order_of}
use Rattle.made_out.proofs.bare_order.Goals as goal

pub returns-in-4 : goal.returns-in-4
unfolding bare_order_of
returns-in-4 c = rw c.in-4.is

pub returns-in-6 : goal.returns-in-6
unfolding bare_order_of
returns-in-6 c = rw c.in-6.is

pub returns-in-7 : goal.returns-in-7
unfolding bare_order_of
returns-in-7 c = rw c.in-7.is

pub returns-in-9 : goal.returns-in-9
unfolding bare_order_of
returns-in-9 c = rw c.in-9.is

pub returns-in_default : goal.returns-in_default
unfolding bare_order_of
returns-in_default c = rw (ne_eqb _ 4 c.in_default.in_default-own.rest.0.0.0.1, ne_eqb _ 6 c.in_default.in_default-own.rest.0.0.1, ne_eqb _ 7 c.in_default.in_default-own.rest.0.1, ne_eqb _ 9 c.in_default.in_default-own.rest.1)
