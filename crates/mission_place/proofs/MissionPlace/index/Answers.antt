-- `mission_place::MissionPlace::index` meets its contract. Assumes nothing.
use Rattle.mission_place.specs.Step.{index_of}
use borrow.Author.Tests.{ne_eqb}
use Rattle.mission_place.proofs.MissionPlace.index.Goals as goal

pub returns-in-4 : goal.returns-in-4
unfolding index_of
returns-in-4 c = rw c.in-4.is c.owed_row.ensures

pub returns-in-8 : goal.returns-in-8
unfolding index_of
returns-in-8 c = rw c.in-8.is c.owed_row-in-8.ensures

pub returns-in_default : goal.returns-in_default
unfolding index_of
returns-in_default c = rw (ne_eqb _ 4 c.in_default.in_default-own.rest.0.1, ne_eqb _ 8 c.in_default.in_default-own.rest.1)
