-- `records::put_lane` meets its contract. Assumes nothing.
use Rattle.output.proofs.Writing.{◌then◌}
use Rattle.records.specs.Put.{lane_put}
use Rattle.records.proofs.put_lane.Goals as goal

pub returns : goal.returns
unfolding lane_put
returns c = c.put_short-a.ensures then c.put_u32_be-b.ensures then c.put_short-c.ensures then c.put_short-d.ensures then c.put_byte-e.ensures then c.put_byte.ensures
