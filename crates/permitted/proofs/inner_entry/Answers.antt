-- `permitted::inner_entry` meets its contract. Assumes nothing.
use Rattle.permitted.specs.Tests.{is_inner_entry}
use Rattle.permitted.proofs.inner_entry.Goals as goal

pub returns-then-counted : goal.returns-then-counted
unfolding is_inner_entry
returns-then-counted c = rw (← c.segment_id.ensures, c.if-segment_id.true, ← c.counted.ensures, c.if-counted.true) c.counted-then-counted.ensures

pub returns-else-counted : goal.returns-else-counted
unfolding is_inner_entry
returns-else-counted c = rw (← c.segment_id.ensures, c.if-segment_id.true, ← c.counted.ensures, c.if-counted.false)

pub returns-else-segment_id : goal.returns-else-segment_id
unfolding is_inner_entry
returns-else-segment_id c = rw (← c.segment_id.ensures, c.if-segment_id.false)
