-- `permitted::limited` meets its contract. Assumes nothing.
use Rattle.permitted.proofs.Computes.{limit_is}
use Rattle.permitted.proofs.limited.Goals as goal

pub returns-then-segment_id : goal.returns-then-segment_id
returns-then-segment_id c = rw (limit_is, ← c.segment_id.ensures, c.if-segment_id.true) c.speeds.ensures

pub returns-else-segment_id : goal.returns-else-segment_id
returns-else-segment_id c = rw (limit_is, ← c.segment_id.ensures, c.if-segment_id.false)
