-- `records::put_file` meets its contract. Assumes nothing.
use mathlib.Core.Path.{ap}
use Prim.Native.Nat.{◌+◌, ◌%◌}
use lib.ListN.{length}
use Rattle.output.specs.Packed.{big_endian}
use Rattle.output.proofs.Writing.{same, ◌then◌}
use Rattle.records.specs.Put.{name_put, file_put}
use Rattle.records.proofs.put_file.Goals as goal

pub returns : goal.returns
unfolding file_put
returns c = same (λ i. big_endian 2 (36 + length (c.name_of-name.ensures i) % 65536 + length (c.name_of-version.ensures i) % 65536)) c.put_short-a.ensures then c.put_counts-b.ensures then same (ap name_put c.name_of-name.ensures) c.put_name-d.ensures then same (ap name_put c.name_of-version.ensures) c.put_name.ensures
