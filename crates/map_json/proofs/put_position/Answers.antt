-- `map_json::put_position` meets its contract: a run of puts, of the point that was read. Assumes nothing.
use mathlib.Core.Path.{◌≡◌, ap, ◌∙◌}
use mir.Syntax.{w32}
use mir.Val.{to_z, of_z}
use borrow.Author.Rules.{rules}
use mathlib.Core.List.{◌++◌}
use Rattle.terms.specs.Ascii.{ascii}
use Rattle.coordinate.specs.House.{house_coordinate}
use Rattle.rows.specs.declared.PointRow.{PointRow}
use Rattle.output.proofs.Writing.{same, ◌then◌}
use Rattle.map_json.specs.Json.{position_at}
use Rattle.map_json.proofs.put_position.Goals as goal

pub returns : goal.returns
unfolding ascii position_at
returns c =
    let p = c.point_at-point.result in
    let x : to_z w32 (of_z w32 p.longitude) ≡ p.longitude = search rules in
    let y : to_z w32 (of_z w32 p.latitude) ≡ p.latitude = search rules in
    same
    ((λ i. ascii "[" ++ house_coordinate (x i) ++ ascii "," ++ house_coordinate (y i) ++ ascii "]") ∙ ap (λ (q : PointRow). ascii "[" ++ house_coordinate q.longitude ++ ascii "," ++ house_coordinate q.latitude ++ ascii "]") c.point_at-point.ensures)
    (c.put_byte-a.ensures then c.put_coordinate-b.ensures then c.put_byte-c.ensures then c.put_coordinate-d.ensures then c.put_byte.ensures)
