-- `mission_place::MissionPlace::due_step` meets its contract. Assumes nothing.
use Rattle.mission_place.specs.Step.{due_of}
use Rattle.mission_place.proofs.MissionPlace.due_step.Goals as goal

pub returns-then-permits : goal.returns-then-permits
unfolding due_of
returns-then-permits c = rw (← c.permits.ensures, c.if-permits.true, ← c.after.ensures)

pub returns-else-permits : goal.returns-else-permits
unfolding due_of
returns-else-permits c = rw (← c.permits.ensures, c.if-permits.false)
