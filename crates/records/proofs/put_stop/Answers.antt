-- `records::put_stop` meets its contract. Assumes nothing.
use Rattle.output.proofs.Writing.{◌then◌}
use Rattle.records.specs.Put.{stop_put}
use Rattle.records.proofs.put_stop.Goals as goal

pub returns : goal.returns
unfolding stop_put
returns c = c.put_short-a.ensures then c.put_u32_be.ensures
