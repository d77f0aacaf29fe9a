-- `records::put_segment` meets its contract. Assumes nothing.
use mathlib.Core.Path.{ap}
use Prim.Native.Nat.{◌+◌, ◌%◌}
use lib.ListN.{length}
use Rattle.terms.specs.Ascii.{Bytes}
use Rattle.output.specs.Packed.{big_endian}
use Rattle.output.proofs.Writing.{same, ◌then◌}
use Rattle.records.specs.Put.{name_put, segment_put}
use Rattle.records.proofs.put_segment.Goals as goal

pub returns : goal.returns
unfolding segment_put
returns c = same (ap (λ (s : Bytes). big_endian 2 (8 + length s % 65536)) c.name_of-name.ensures) c.put_short-a.ensures then c.put_u32_be-b.ensures then c.put_short-c.ensures then same (ap name_put c.name_of-name.ensures) c.put_name.ensures
