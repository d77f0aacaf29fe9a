-- `permitted::own_exit` meets its contract. Assumes nothing.
use Rattle.permitted.proofs.Computes.{own-exit-is}
use Rattle.permitted.proofs.own_exit.Goals as goal

pub returns-then-own_stop : goal.returns-then-own_stop
returns-then-own_stop c = rw (own-exit-is, ← c.own_stop.ensures, c.if-own_stop.true) c.entry.ensures

pub returns-else-own_stop : goal.returns-else-own_stop
returns-else-own_stop c = rw (own-exit-is, ← c.own_stop.ensures, c.if-own_stop.false)
