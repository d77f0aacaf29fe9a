-- `map_writer::put_whole` meets its contract. Assumes nothing.
use lib.ListN.{length}
use Rattle.features.specs.Drawn.{drawn}
use Rattle.map_writer.proofs.Steps.{whole-so}
use Rattle.map_writer.proofs.put_whole.Goals as goal

pub returns : goal.returns
returns c =
    let a = c.args in
    whole-so (drawn a.text.now a.segments.now a.lanes.now a.zones.now a.spots.now a.points.now a.checkpoints.now a.counts) (length a.out.now) c.clear_output.ensures c.put_map-at.ensures c.finish.ensures
