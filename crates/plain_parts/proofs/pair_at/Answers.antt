-- `plain_parts::pair_at` meets its contract. Assumes nothing.
use Rattle.plain_parts.proofs.Joined.{pair-joined}
use Rattle.plain_parts.proofs.pair_at.Goals as goal

pub returns : goal.returns
returns c =
    let a = c.args in
    let dot = rw c.if-not-dot_at.false at c.dot_at.ensures in
    pair-joined a.s.now a.from c.in_ok-m.p c.in_ok-n.e c.in_ok-m.m c.in_ok-m.ensures dot c.in_ok-n.n c.in_ok-n.ensures
