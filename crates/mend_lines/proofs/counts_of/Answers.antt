-- `mend_lines::counts_of` meets its contract. Assumes nothing.
use mathlib.Core.Path.{sym, ap}
use borrow.Author.Tests.{ne_eqb}
use Rattle.mend_lines.specs.Forward.{counted_of}
use Rattle.mend_lines.proofs.counts_of.Goals as goal

pub returns-in-1 : goal.returns-in-1
unfolding counted_of
returns-in-1 c = sym (ap counted_of c.in-1.is)

pub returns-in-2 : goal.returns-in-2
unfolding counted_of
returns-in-2 c = sym (ap counted_of c.in-2.is)

pub returns-in-6 : goal.returns-in-6
unfolding counted_of
returns-in-6 c = sym (ap counted_of c.in-6.is)

pub returns-in-10 : goal.returns-in-10
unfolding counted_of
returns-in-10 c = sym (ap counted_of c.in-10.is)

pub returns-in-19 : goal.returns-in-19
unfolding counted_of
returns-in-19 c = sym (ap counted_of c.in-19.is)

pub returns-in-23 : goal.returns-in-23
unfolding counted_of
returns-in-23 c = sym (ap counted_of c.in-23.is)

pub returns-in_default : goal.returns-in_default
unfolding counted_of
returns-in_default c = rw (ne_eqb _ 1 c.in_default.in_default-own.rest.0.0.0.0.0.1, ne_eqb _ 2 c.in_default.in_default-own.rest.0.0.0.0.1, ne_eqb _ 6 c.in_default.in_default-own.rest.0.0.0.1, ne_eqb _ 10 c.in_default.in_default-own.rest.0.0.1, ne_eqb _ 19 c.in_default.in_default-own.rest.0.1, ne_eqb _ 23 c.in_default.in_default-own.rest.1)
