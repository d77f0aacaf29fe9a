-- `plain_line::side_behind` meets its contract. Assumes nothing.
use Rattle.plain_line.proofs.Shapes.{side-made}
use Rattle.plain_line.proofs.side_behind.Goals as goal

pub returns : goal.returns
returns c = rw c.sided.ensures (side-made c.args.s.now c.args.from c.in_ok-b.e c.args.kind c.in_ok-b.b c.requires c.in_ok-b.ensures)
