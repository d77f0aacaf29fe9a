-- `plain_line::checkpoint_behind` meets its contract. Assumes nothing.
use Rattle.plain_line.proofs.Shapes.{checkpoint-made}
use Rattle.plain_line.proofs.checkpoint_behind.Goals as goal

pub returns : goal.returns
returns c =
    let a = c.args in
    let point = c.in_ok-x in
    let number = c.in_ok-n in
    checkpoint-made a.s.now a.from point.i c.in_ok-b.b number.e point.x point.y point.z point.ensures c.in_ok-b.ensures number.n number.ensures
