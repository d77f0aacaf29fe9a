-- `plain_parts::degrees_at` meets its contract. Assumes nothing.
use Rattle.plain_parts.proofs.Joined.{degrees-joined}
use Rattle.plain_parts.proofs.degrees_at.Goals as goal

pub returns : goal.returns
returns c =
    let a = c.args in
    let first = c.in_ok-whole in
    let six = c.in_ok-part.ensures in
    let dot = rw c.if-not-dot_at.false at c.dot_at.ensures in
    degrees-joined a.s.now a.from first.p first.whole c.in_ok-part.part first.ensures dot c.if-whole-gt999.false six.0 (six.1, six.2)
