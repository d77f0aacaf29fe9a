-- `records::put_spot` meets its contract. Assumes nothing.
use Rattle.output.proofs.Writing.{◌then◌}
use Rattle.records.specs.Put.{spot_put}
use Rattle.records.proofs.put_spot.Goals as goal

pub returns : goal.returns
unfolding spot_put
returns c = c.put_short-a.ensures then c.put_u32_be-b.ensures then c.put_short.ensures
