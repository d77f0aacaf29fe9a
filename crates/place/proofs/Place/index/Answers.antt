-- `place::Place::index` meets its contract. Assumes nothing.
use Rattle.place.specs.Step.{index_of}
use borrow.Author.Tests.{ne_eqb}
use Rattle.place.proofs.Place.index.Goals as goal

pub returns-in-4 : goal.returns-in-4
unfolding index_of
returns-in-4 c = rw c.in-4.is c.part_row.ensures

pub returns-in-9 : goal.returns-in-9
unfolding index_of
returns-in-9 c = rw c.in-9.is c.owed_row.ensures

pub returns-in-13 : goal.returns-in-13
unfolding index_of
returns-in-13 c = rw c.in-13.is c.owed_row-in-13.ensures

pub returns-in-19 : goal.returns-in-19
unfolding index_of
returns-in-19 c = rw c.in-19.is c.owed_row-in-19.ensures

pub returns-in-21 : goal.returns-in-21
unfolding index_of
returns-in-21 c = rw c.in-21.is c.owed_row-in-21.ensures

pub returns-in_default : goal.returns-in_default
unfolding index_of
returns-in_default c = rw (ne_eqb _ 4 c.in_default.in_default-own.rest.0.0.0.0.1, ne_eqb _ 9 c.in_default.in_default-own.rest.0.0.0.1, ne_eqb _ 13 c.in_default.in_default-own.rest.0.0.1, ne_eqb _ 19 c.in_default.in_default-own.rest.0.1, ne_eqb _ 21 c.in_default.in_default-own.rest.1)
