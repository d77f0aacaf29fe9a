-- `plain_line::stop_behind` meets its contract. Assumes nothing.
use Rattle.plain_line.proofs.Shapes.{stop-made}
use Rattle.plain_line.proofs.stop_behind.Goals as goal

pub returns : goal.returns
returns c =
    let point = c.in_ok-x in
    stop-made c.args.s.now c.args.from point.e point.x point.y point.z point.ensures
