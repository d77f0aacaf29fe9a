-- `packed_check::places_of` meets its contract. Assumes nothing.
use Rattle.packed_check.proofs.Steps.{places-made}
use Rattle.packed_check.proofs.places_of.Goals as goal

pub returns : goal.returns
returns c = let a = c.args in places-made a.c a.segments a.lanes a.spots _ _ _ _ _ c.behind-zones.ensures c.behind-points.ensures c.behind-checkpoints.ensures c.behind-stops.ensures c.behind-exits.ensures
