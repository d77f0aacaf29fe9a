-- `records::put_records` meets its contract. Assumes nothing.
use Rattle.output.proofs.Writing.{◌then◌}
use Rattle.records.specs.Put.{all_put}
use Rattle.records.proofs.put_records.Goals as goal

pub returns : goal.returns
unfolding all_put
returns c = c.put_file-f.ensures then c.put_segments-s.ensures then c.put_lanes-l.ensures then c.put_zones-z.ensures then c.put_spots-p.ensures then c.put_points-q.ensures then c.put_checkpoints-c.ensures then c.put_stops-t.ensures then c.put_exits.ensures
