-- `place::part_row` meets its contract. Assumes nothing.
use Rattle.permitted.proofs.Owed.{owing-more}
use Rattle.place.proofs.part_row.Goals as goal

pub returns-then-segments-eq0 : goal.returns-then-segments-eq0
returns-then-segments-eq0 c = rw c.if-segments-eq0.true c.owed_row.ensures

pub returns-else-segments-eq0 : goal.returns-else-segments-eq0
returns-else-segments-eq0 c = owing-more _ _ _ c.if-segments-eq0.false
