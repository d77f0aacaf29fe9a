-- `plain_line::exit_behind` meets its contract. Assumes nothing.
use Rattle.plain_line.proofs.Shapes.{exit-made}
use Rattle.plain_line.proofs.exit_behind.Goals as goal

pub returns : goal.returns
returns c =
    let a = c.args in
    let point = c.in_ok-x in
    let entry = c.in_ok-to_x in
    exit-made a.s.now a.from point.i c.in_ok-b.b entry.e point.x point.y point.z point.ensures c.in_ok-b.ensures entry.to_x entry.to_y entry.to_z entry.ensures
