-- `records::put_point` meets its contract. Assumes nothing.
use mathlib.Core.Path.{◌≡◌, ap}
use mir.Syntax.{w32}
use mir.Val.{to_z, of_z}
use Rattle.output.specs.Packed.{big_endian}
use Rattle.packed_law.specs.Packed.{unsigned}
use borrow.Author.Rules.{rules}
use Rattle.output.proofs.Writing.{same, ◌then◌}
use Rattle.records.specs.Put.{point_put}
use Rattle.records.proofs.put_point.Goals as goal

pub returns : goal.returns
unfolding point_put
returns c =
    let p = c.args.row in
    let x : to_z w32 (of_z w32 p.latitude) ≡ p.latitude = search rules in
    let y : to_z w32 (of_z w32 p.longitude) ≡ p.longitude = search rules in
    c.put_short-a.ensures then same (ap (λ z. big_endian 4 (unsigned z)) x) c.put_signed-b.ensures then same (ap (λ z. big_endian 4 (unsigned z)) y) c.put_signed.ensures
