-- `house_lines::put_fields` meets its contract. Assumes nothing.
use Rattle.output.proofs.Writing.{same, ◌then◌}
use Rattle.house_lines.proofs.Order.{line-put}
use Rattle.house_lines.proofs.put_fields.Goals as goal

pub put_further-two-requires : goal.put_further-two-requires
put_further-two-requires c = c.requires.second

pub put_further-three-requires : goal.put_further-three-requires
put_further-three-requires c = c.requires.third

pub returns : goal.returns
returns c =
    let a = c.args in
    same
    (line-put a.line.now a.f c.begins_with_digit-point.result c.begins_with_digit-point.ensures)
    (c.put_field-one.ensures then c.put_further-two.ensures then c.put_further-three.ensures then c.put_line_end.ensures)
