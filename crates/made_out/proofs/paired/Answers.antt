use borrow.Author.Tests.{ne_eqb}
use Rattle.made_out.specs.Made.{paired_of}
use Rattle.made_out.proofs.paired.Goals as goal

pub returns-in-9 : goal.returns-in-9
unfolding paired_of
returns-in-9 c = rw c.in-9.is

pub returns-in-22 : goal.returns-in-22
unfolding paired_of
returns-in-22 c = rw c.in-22.is

pub returns-in_default : goal.returns-in_default
unfolding paired_of
returns-in_default c = rw (ne_eqb _ 9 c.in_default.in_default-own.rest.0.1, ne_eqb _ 22 c.in_default.in_default-own.rest.1)
