use borrow.Author.Tests.{ne_eqb}
use Rattle.made_out.specs.Made.{named_of}
use Rattle.made_out.proofs.named.Goals as goal

pub returns-in-0 : goal.returns-in-0
unfolding named_of
returns-in-0 c = rw c.in-0.is

pub returns-in-3 : goal.returns-in-3
unfolding named_of
returns-in-3 c = rw c.in-3.is

pub returns-in-4 : goal.returns-in-4
unfolding named_of
returns-in-4 c = rw c.in-4.is

pub returns-in-7 : goal.returns-in-7
unfolding named_of
returns-in-7 c = rw c.in-7.is

pub returns-in_default : goal.returns-in_default
unfolding named_of
returns-in_default c = rw (ne_eqb _ 0 c.in_default.in_default-own.rest.0.0.0.1, ne_eqb _ 3 c.in_default.in_default-own.rest.0.0.1, ne_eqb _ 4 c.in_default.in_default-own.rest.0.1, ne_eqb _ 7 c.in_default.in_default-own.rest.1)
