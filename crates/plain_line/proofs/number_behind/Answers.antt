-- `plain_line::number_behind` meets its contract. Assumes nothing.
use Rattle.plain_line.proofs.Shapes.{number-made}
use Rattle.plain_line.proofs.number_behind.Goals as goal

pub returns : goal.returns
returns c = rw c.numbered.ensures (number-made c.args.s.now c.args.from c.in_ok-n.e c.args.kind c.in_ok-n.n c.requires c.in_ok-n.ensures)
