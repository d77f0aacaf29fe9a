-- `features::put_lane` meets its contract. Assumes nothing.
use Rattle.terms.specs.Ascii.{ascii}
use Rattle.output.proofs.Writing.{◌then◌}
use Rattle.features.specs.Drawn.{lane}
use Rattle.features.proofs.put_lane.Goals as goal

pub returns : goal.returns
unfolding ascii lane
returns c = c.put_bytes-a.ensures then c.put_lane_shape-b.ensures then c.put_bytes-c.ensures then c.put_pair-d.ensures then c.put_named.ensures
