use borrow.Author.Tests.{ne_eqb}
use Rattle.made_out.specs.Made.{bare_of}
use Rattle.made_out.proofs.bare.Goals as goal

pub returns-in-8 : goal.returns-in-8
unfolding bare_of
returns-in-8 c = rw c.in-8.is

pub returns-in-17 : goal.returns-in-17
unfolding bare_of
returns-in-17 c = rw c.in-17.is

pub returns-in-21 : goal.returns-in-21
unfolding bare_of
returns-in-21 c = rw c.in-21.is

pub returns-in-24 : goal.returns-in-24
unfolding bare_of
returns-in-24 c = rw c.in-24.is

pub returns-in-27 : goal.returns-in-27
unfolding bare_of
returns-in-27 c = rw c.in-27.is

pub returns-in_default : goal.returns-in_default
unfolding bare_of
returns-in_default c = rw (ne_eqb _ 8 c.in_default.in_default-own.rest.0.0.0.0.1, ne_eqb _ 17 c.in_default.in_default-own.rest.0.0.0.1, ne_eqb _ 21 c.in_default.in_default-own.rest.0.0.1, ne_eqb _ 24 c.in_default.in_default-own.rest.0.1, ne_eqb _ 27 c.in_default.in_default-own.rest.1)
