-- `records::put_name` meets its contract. Assumes nothing.
use Rattle.output.proofs.Writing.{◌then◌}
use Rattle.records.specs.Put.{name_put}
use Rattle.records.proofs.put_name.Goals as goal

pub returns : goal.returns
unfolding name_put
returns c = c.put_short-a.ensures then c.put_bytes.ensures
