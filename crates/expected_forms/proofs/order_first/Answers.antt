-- `expected_forms::order_first` meets its contract. Assumes nothing.
use borrow.Author.Tests.{ne_eqb}
use Rattle.expected_forms.specs.Forms.{order_first_of}
use Rattle.expected_forms.proofs.order_first.Goals as goal

pub returns-in-11 : goal.returns-in-11
unfolding order_first_of
returns-in-11 c = rw c.in-11.is

pub returns-in-12 : goal.returns-in-12
unfolding order_first_of
returns-in-12 c = rw c.in-12.is

pub returns-in_default : goal.returns-in_default
unfolding order_first_of
returns-in_default c = rw (ne_eqb _ 11 c.in_default.in_default-own.rest.0.1, ne_eqb _ 12 c.in_default.in_default-own.rest.1)
