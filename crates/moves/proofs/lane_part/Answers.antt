-- `moves::lane_part` meets its contract. Assumes nothing.
use Rattle.moves.specs.Moves.{lane_part_of}
use Rattle.moves.proofs.lane_part.Goals as goal

pub returns : goal.returns
unfolding lane_part_of
returns c = rw c.lane_at-lane.ensures
