-- `yard_reach::start_row` meets its contract. Assumes nothing.
use borrow.Author.Tests.{eq-eqb, ne_eqb, le-leb, lt-leb}
use Rattle.yard_reach.specs.Starts.{start-row}
use Rattle.yard_reach.proofs.start_row.Goals as goal

pub returns-then-e-eq0 : goal.returns-then-e-eq0
unfolding start-row
returns-then-e-eq0 c = rw (eq-eqb _ 0 c.if-e-eq0.true) c.resolve.ensures

pub returns-then-e-segment_count : goal.returns-then-e-segment_count
unfolding start-row
returns-then-e-segment_count c = rw (ne_eqb _ 0 c.if-e-eq0.false, le-leb _ _ c.if-e-segment_count.true) c.resolve-then-e-segment_count.ensures

pub returns-else-e-segment_count : goal.returns-else-e-segment_count
unfolding start-row
returns-else-e-segment_count c = rw (ne_eqb _ 0 c.if-e-eq0.false, lt-leb _ _ c.if-e-segment_count.false) c.spot_row.ensures
