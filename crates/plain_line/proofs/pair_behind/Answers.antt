-- `plain_line::pair_behind` meets its contract. Assumes nothing.
use Rattle.plain_line.proofs.Shapes.{pair_made}
use Rattle.plain_line.proofs.pair_behind.Goals as goal

pub returns : goal.returns
returns c = rw c.paired.ensures (pair_made c.args.s.now c.args.from c.in_ok-m.e c.args.kind c.in_ok-m.m c.in_ok-m.n c.requires c.in_ok-m.ensures)
