-- `permitted::own_checkpoint` meets its contract. Assumes nothing.
use Rattle.permitted.proofs.Computes.{own-checkpoint-is}
use Rattle.permitted.proofs.own_checkpoint.Goals as goal

pub returns-then-numbered : goal.returns-then-numbered
returns-then-numbered c = rw (own-checkpoint-is, ← c.is_point.ensures, c.if-is_point.true, ← c.numbered.ensures, c.if-numbered.true) c.checkpoint_number.ensures

pub returns-else-numbered : goal.returns-else-numbered
returns-else-numbered c = rw (own-checkpoint-is, ← c.is_point.ensures, c.if-is_point.true, ← c.numbered.ensures, c.if-numbered.false)

pub returns-else-is_point : goal.returns-else-is_point
returns-else-is_point c = rw (own-checkpoint-is, ← c.is_point.ensures, c.if-is_point.false)
