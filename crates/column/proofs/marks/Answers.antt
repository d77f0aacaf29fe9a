-- `column::marks` meets its contract. Assumes nothing.
use Rattle.column.proofs.marks.Goals as goal

pub returns : goal.returns
returns c = rw (← c.major.ensures, ← c.minor.ensures, ← c.first_marked.ensures) c.own_checkpoint.ensures
