-- `records::put_exit` meets its contract. Assumes nothing.
use Rattle.output.proofs.Writing.{◌then◌}
use Rattle.records.specs.Put.{exit_put}
use Rattle.records.proofs.put_exit.Goals as goal

pub returns : goal.returns
unfolding exit_put
returns c = c.put_short-a.ensures then c.put_u32_be-b.ensures then c.put_u32_be.ensures
