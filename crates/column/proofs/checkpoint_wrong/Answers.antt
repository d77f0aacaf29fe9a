-- `column::checkpoint_wrong` meets its contract. Assumes nothing.
use Rattle.columns.specs.RndfColumns.{checkpoint_wrong_of}
use Rattle.column.proofs.checkpoint_wrong.Goals as goal

pub returns-in_default : goal.returns-in_default
unfolding checkpoint_wrong_of
returns-in_default c = rw c.in_default.is

pub returns-then-tried : goal.returns-then-tried
unfolding checkpoint_wrong_of
returns-then-tried c = rw (c.in-Some.is, ← c.marks.ensures, ← c.tried.ensures, c.if-tried.true)

pub returns-else-tried : goal.returns-else-tried
unfolding checkpoint_wrong_of
returns-else-tried c = rw (c.in-Some.is, ← c.marks.ensures, ← c.tried.ensures, c.if-tried.false)
