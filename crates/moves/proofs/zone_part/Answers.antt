-- `moves::zone_part` meets its contract. Assumes nothing.
use Rattle.moves.specs.Moves.{zone_part_of}
use Rattle.moves.proofs.zone_part.Goals as goal

pub returns : goal.returns
unfolding zone_part_of
returns c = rw c.zone_at-zone.ensures
