-- `permitted::entry` meets its contract. Assumes nothing.
use Rattle.permitted.proofs.Computes.{entry-is}
use Rattle.permitted.proofs.entry.Goals as goal

pub returns-then-at_most : goal.returns-then-at_most
returns-then-at_most c = rw (entry-is, ← c.segment_id.ensures, c.if-segment_id.true, ← c.at_most.ensures, c.if-at_most.true) c.counted.ensures

pub returns-else-at_most : goal.returns-else-at_most
returns-else-at_most c = rw (entry-is, ← c.segment_id.ensures, c.if-segment_id.true, ← c.at_most.ensures, c.if-at_most.false)

pub returns-else-segment_id : goal.returns-else-segment_id
returns-else-segment_id c = rw (entry-is, ← c.segment_id.ensures, c.if-segment_id.false)
