-- `records::put_zone` meets its contract. Assumes nothing.
use mathlib.Core.Path.{ap}
use Prim.Native.Nat.{◌+◌, ◌%◌}
use lib.ListN.{length}
use Rattle.terms.specs.Ascii.{Bytes}
use Rattle.output.specs.Packed.{big_endian}
use Rattle.output.proofs.Writing.{same, ◌then◌}
use Rattle.records.specs.Put.{name_put, zone_put}
use Rattle.records.proofs.put_zone.Goals as goal

pub returns : goal.returns
unfolding zone_put
returns c = same (ap (λ (s : Bytes). big_endian 2 (14 + length s % 65536)) c.name_of-name.ensures) c.put_short-a.ensures then c.put_u32_be-b.ensures then c.put_short-c.ensures then c.put_u32_be-d.ensures then c.put_short-e.ensures then same (ap name_put c.name_of-name.ensures) c.put_name.ensures
