-- `permitted::speeds` meets its contract. Assumes nothing.
use Rattle.permitted.proofs.speeds.Goals as goal

pub returns-then-speed-2 : goal.returns-then-speed-2
returns-then-speed-2 c = rw (← c.speed.ensures, c.if-speed.true, ← c.speed-then-speed.ensures, c.if-speed-2.true) c.not_above.ensures

pub returns-else-speed-2 : goal.returns-else-speed-2
returns-else-speed-2 c = rw (← c.speed.ensures, c.if-speed.true, ← c.speed-then-speed.ensures, c.if-speed-2.false)

pub returns-else-speed : goal.returns-else-speed
returns-else-speed c = rw (← c.speed.ensures, c.if-speed.false)
