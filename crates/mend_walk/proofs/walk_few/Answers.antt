-- `mend_walk::walk_few` meets its contract. Assumes nothing.
use Rattle.mend_walk.proofs.Steps.{few-stood}
use Rattle.mend_walk.proofs.walk_few.Goals as goal

pub returns : goal.returns
returns c =
    λ right size few small. few-stood c.walk_part.result c.walk_part.new.segments c.walk_part.new.lanes c.walk_part.new.zones c.walk_part.new.checkpoints c.walk_part.new.spots c.walk_part.new.stops c.walk_part.new.exits c.walk_part.new.points c.walk_part.auto.spots c.walk_part.auto.points c.walk_part.auto.stops c.walk_part.auto.exits (c.walk_part.ensures right size few small)
