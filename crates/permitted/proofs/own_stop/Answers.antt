-- `permitted::own_stop` meets its contract. Assumes nothing.
use Rattle.permitted.proofs.Computes.{own-stop-is}
use Rattle.permitted.proofs.own_stop.Goals as goal

pub returns-then-is_point : goal.returns-then-is_point
returns-then-is_point c = rw (own-stop-is, ← c.is_point.ensures, c.if-is_point.true) c.numbered.ensures

pub returns-else-is_point : goal.returns-else-is_point
returns-else-is_point c = rw (own-stop-is, ← c.is_point.ensures, c.if-is_point.false)
