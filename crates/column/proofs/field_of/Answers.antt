-- `column::field_of` meets its contract. Assumes nothing.
use borrow.Author.Tests.{eq-eqb, ne_eqb}
use Rattle.terms.proofs.Tests.{or_right}
use Rattle.columns.specs.Locating.{field_of}
use Rattle.column.proofs.field_of.Goals as goal

pub known_field-requires : goal.known_field-requires
known_field-requires c = c.requires

pub known_field-requires-in-9 : goal.known_field-requires-in-9
known_field-requires-in-9 c = c.requires

pub returns-in-8 : goal.returns-in-8
unfolding field_of
returns-in-8 c = rw (eq-eqb _ 8 c.in-8.is) c.known_field.ensures

pub returns-in-9 : goal.returns-in-9
unfolding field_of
returns-in-9 c = rw (or_right _ (eq-eqb _ 9 c.in-9.is)) c.known_field-in-9.ensures

pub returns-in_default : goal.returns-in_default
unfolding field_of
returns-in_default c = rw (ne_eqb _ 8 c.in_default.in_default-own.rest.0.1, ne_eqb _ 9 c.in_default.in_default-own.rest.1) c.listed_at.ensures
