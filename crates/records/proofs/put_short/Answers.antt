-- `records::put_short` meets its contract. Assumes nothing.
use Rattle.output.specs.Packed.{big_endian}
use Rattle.output.proofs.Writing.{◌then◌}
use Rattle.records.proofs.put_short.Goals as goal

pub returns : goal.returns
unfolding big_endian
returns c = c.put_byte-a.ensures then c.put_byte.ensures
