-- `mission::store` meets its contract. Assumes nothing.
use Rattle.mission.specs.Storing.{stored}
use Rattle.mission.proofs.store.Goals as goal

pub returns-in-Nothing : goal.returns-in-Nothing
unfolding stored
returns-in-Nothing c = rw c.in-Nothing.is

pub returns-in-Goal : goal.returns-in-Goal
unfolding stored
returns-in-Goal c = rw (c.in-Goal.is, c.store_goal.ensures)

pub returns-in-Limit : goal.returns-in-Limit
unfolding stored
returns-in-Limit c = rw (c.in-Limit.is, c.store_limit.ensures)
