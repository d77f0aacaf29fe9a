-- `expected_lines::lists` meets its contract. Assumes nothing.
use borrow.Author.Tests.{ne_eqb}
use Rattle.expected_lines.specs.Words.{lists}
use Rattle.expected_lines.proofs.lists.Goals as goal

pub returns-in-5 : goal.returns-in-5
unfolding lists
returns-in-5 c = rw c.in-5.is

pub returns-in-6 : goal.returns-in-6
unfolding lists
returns-in-6 c = rw c.in-6.is

pub returns-in-10 : goal.returns-in-10
unfolding lists
returns-in-10 c = rw c.in-10.is

pub returns-in-25 : goal.returns-in-25
unfolding lists
returns-in-25 c = rw c.in-25.is

pub returns-in_default : goal.returns-in_default
unfolding lists
returns-in_default c = rw (ne_eqb _ 5 c.in_default.in_default-own.rest.0.0.0.1, ne_eqb _ 6 c.in_default.in_default-own.rest.0.0.1, ne_eqb _ 10 c.in_default.in_default-own.rest.0.1, ne_eqb _ 25 c.in_default.in_default-own.rest.1)
