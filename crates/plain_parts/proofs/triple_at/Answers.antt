-- `plain_parts::triple_at` meets its contract. Assumes nothing.
use Prim.Native.Nat.{◌+◌}
use Rattle.plain_parts.proofs.Joined.{pair-joined, triple-joined}
use Rattle.plain_parts.proofs.triple_at.Goals as goal

pub returns : goal.returns
returns c =
    let a = c.args in
    let first = c.in_ok-x in
    let second = c.in_ok-y in
    let third = c.in_ok-z in
    let dot = rw c.if-not-dot_at.false at c.dot_at.ensures in
    let point = rw c.if-not-dot_at-2.false at c.dot_at-2.ensures in
    triple-joined a.s.now a.from first.p third.e first.x first.ensures dot second.y third.z (pair-joined a.s.now (first.p + 1) second.q third.e second.y second.ensures point third.z third.ensures)
