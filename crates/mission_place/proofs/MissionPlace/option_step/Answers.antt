-- `mission_place::MissionPlace::option_step` meets its contract. Assumes nothing.
use Rattle.mission_place.specs.Step.{option_of}
use Rattle.mission_place.proofs.MissionPlace.option_step.Goals as goal

pub returns-then-has : goal.returns-then-has
unfolding option_of
returns-then-has c = rw (← c.has.ensures, c.if-has.true)

pub returns-then-permits : goal.returns-then-permits
unfolding option_of
returns-then-permits c = rw (← c.has.ensures, c.if-has.false, ← c.permits.ensures, c.if-permits.true, ← c.opted.ensures)

pub returns-else-permits : goal.returns-else-permits
unfolding option_of
returns-else-permits c = rw (← c.has.ensures, c.if-has.false, ← c.permits.ensures, c.if-permits.false)
