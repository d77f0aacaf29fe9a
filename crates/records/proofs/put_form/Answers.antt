-- `records::put_form` meets its contract. Assumes nothing.
use mathlib.Core.Path.{◌≡◌, ap}
use Prim.Native.Nat.{◌%◌, min}
use native.Mathlib.Omega.{arith}
use lib.ListN.{length}
use Rattle.output.specs.Packed.{big_endian}
use Rattle.output.proofs.Counting.{counted}
use Rattle.output.proofs.Writing.{same, ◌then◌}
use Rattle.records.specs.Put.{all_put, form_put}
use Rattle.records.proofs.put_form.Goals as goal

pub returns : goal.returns
unfolding form_put
returns c =
    let a = c.args in
    let all = all_put a.text.now a.segments.now a.lanes.now a.zones.now a.spots.now a.points.now a.checkpoints.now a.stops.now a.exits.now a.counts a.file in
    let e : c.put_records-size.result ≡ min (length all) 16777216 = counted c.put_records-size.ensures in
    let q : c.put_records-size.result % 4294967296 ≡ min (length all) 16777216 = omega arith in
    c.put_byte-a.ensures then same (ap (big_endian 4) q) c.put_u32_be-b.ensures then c.put_records.ensures
