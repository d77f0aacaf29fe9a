-- `records::put_checkpoint` meets its contract. Assumes nothing.
use Rattle.output.proofs.Writing.{◌then◌}
use Rattle.records.specs.Put.{checkpoint_put}
use Rattle.records.proofs.put_checkpoint.Goals as goal

pub returns : goal.returns
unfolding checkpoint_put
returns c = c.put_short-a.ensures then c.put_short-b.ensures then c.put_u32_be.ensures
