-- `expected_lines::lists_field` meets its contract. Assumes nothing.
use borrow.Author.Tests.{ne_eqb}
use Rattle.expected_lines.specs.Words.{lists_field_of}
use Rattle.expected_lines.proofs.lists_field.Goals as goal

pub returns-in-8 : goal.returns-in-8
unfolding lists_field_of
returns-in-8 c = rw c.in-8.is

pub returns-in-9 : goal.returns-in-9
unfolding lists_field_of
returns-in-9 c = rw c.in-9.is

pub returns-in_default : goal.returns-in_default
unfolding lists_field_of
returns-in_default c = rw (ne_eqb _ 8 c.in_default.in_default-own.rest.0.1, ne_eqb _ 9 c.in_default.in_default-own.rest.1)
