-- `permitted::owed_row` meets its contract. Assumes nothing.
use Rattle.permitted.proofs.Owed.{owing-more}
use Rattle.permitted.proofs.owed_row.Goals as goal

pub returns-else-owed-eq0 : goal.returns-else-owed-eq0
returns-else-owed-eq0 c = owing-more _ _ _ c.if-owed-eq0.false
