use mathlib.Core.Path.{refl}
use Rattle.network.specs.Storing.{stored}
use Rattle.network.proofs.store.Goals as goal

-- src/lib.rt:49:1
pub returns-in-Nothing : goal.returns-in-Nothing
unfolding stored
returns-in-Nothing c = rw c.in-Nothing.is refl

-- src/lib.rt:49:1
pub returns-in-Segment : goal.returns-in-Segment
unfolding stored
returns-in-Segment c = rw (c.in-Segment.is, c.store_segment.ensures) refl

-- src/lib.rt:49:1
pub returns-in-Lane : goal.returns-in-Lane
unfolding stored
returns-in-Lane c = rw (c.in-Lane.is, c.store_lane.ensures) refl

-- src/lib.rt:49:1
pub returns-in-Zone : goal.returns-in-Zone
unfolding stored
returns-in-Zone c = rw (c.in-Zone.is, c.store_zone.ensures) refl

-- src/lib.rt:49:1
pub returns-in-Spot : goal.returns-in-Spot
unfolding stored
returns-in-Spot c = rw (c.in-Spot.is, c.store_spot.ensures) refl

-- src/lib.rt:49:1
pub returns-in-Point : goal.returns-in-Point
unfolding stored
returns-in-Point c = rw (c.in-Point.is, c.store_in_part.ensures) refl

-- src/lib.rt:49:1
pub returns-in-Checkpoint : goal.returns-in-Checkpoint
unfolding stored
returns-in-Checkpoint c = rw (c.in-Checkpoint.is, c.store_numbered.ensures) refl

-- src/lib.rt:49:1
pub returns-in-Stop : goal.returns-in-Stop
unfolding stored
returns-in-Stop c = rw (c.in-Stop.is, c.store_stop.ensures) refl

-- src/lib.rt:49:1
pub returns-in-Exit : goal.returns-in-Exit
unfolding stored
returns-in-Exit c = rw (c.in-Exit.is, c.store_exit.ensures) refl
