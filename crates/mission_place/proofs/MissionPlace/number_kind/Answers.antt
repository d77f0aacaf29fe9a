-- `mission_place::MissionPlace::number_kind` meets its contract. Assumes nothing.
use Rattle.mission_place.specs.Step.{number_kind_of}
use borrow.Author.Tests.{ne_eqb}
use Rattle.mission_place.proofs.MissionPlace.number_kind.Goals as goal

pub returns-in-4 : goal.returns-in-4
unfolding number_kind_of
returns-in-4 c = rw (← c.index.ensures, c.in-4.is)

pub returns-in-8 : goal.returns-in-8
unfolding number_kind_of
returns-in-8 c = rw (← c.index.ensures, c.in-8.is)

pub returns-in_default : goal.returns-in_default
unfolding number_kind_of
returns-in_default c = rw (← c.index.ensures, ne_eqb _ 4 c.in_default.in_default-own.rest.0.1, ne_eqb _ 8 c.in_default.in_default-own.rest.1)
