use borrow.Author.Tests.{ne_eqb}
use Rattle.made_out.specs.Made.{numbered_of}
use Rattle.made_out.proofs.numbered.Goals as goal

pub returns-in-1 : goal.returns-in-1
unfolding numbered_of
returns-in-1 c = rw c.in-1.is

pub returns-in-2 : goal.returns-in-2
unfolding numbered_of
returns-in-2 c = rw c.in-2.is

pub returns-in-5 : goal.returns-in-5
unfolding numbered_of
returns-in-5 c = rw c.in-5.is

pub returns-in-6 : goal.returns-in-6
unfolding numbered_of
returns-in-6 c = rw c.in-6.is

pub returns-in-10 : goal.returns-in-10
unfolding numbered_of
returns-in-10 c = rw c.in-10.is

pub returns-in-11 : goal.returns-in-11
unfolding numbered_of
returns-in-11 c = rw c.in-11.is

pub returns-in-18 : goal.returns-in-18
unfolding numbered_of
returns-in-18 c = rw c.in-18.is

pub returns-in-19 : goal.returns-in-19
unfolding numbered_of
returns-in-19 c = rw c.in-19.is

pub returns-in-23 : goal.returns-in-23
unfolding numbered_of
returns-in-23 c = rw c.in-23.is

pub returns-in_default : goal.returns-in_default
unfolding numbered_of
returns-in_default c = rw (ne_eqb _ 1 c.in_default.in_default-own.rest.0.0.0.0.0.0.0.0.1, ne_eqb _ 2 c.in_default.in_default-own.rest.0.0.0.0.0.0.0.1, ne_eqb _ 5 c.in_default.in_default-own.rest.0.0.0.0.0.0.1, ne_eqb _ 6 c.in_default.in_default-own.rest.0.0.0.0.0.1, ne_eqb _ 10 c.in_default.in_default-own.rest.0.0.0.0.1, ne_eqb _ 11 c.in_default.in_default-own.rest.0.0.0.1, ne_eqb _ 18 c.in_default.in_default-own.rest.0.0.1, ne_eqb _ 19 c.in_default.in_default-own.rest.0.1, ne_eqb _ 23 c.in_default.in_default-own.rest.1)
