-- `mission_column::minimum_wrong` meets its contract. Assumes nothing.
use Rattle.columns.specs.MdfColumns.{minimum_wrong_of}
use Rattle.mission_column.proofs.minimum_wrong.Goals as goal

pub returns-in_default : goal.returns-in_default
unfolding minimum_wrong_of
returns-in_default c = rw c.in_default.is

pub returns-then-tried : goal.returns-then-tried
unfolding minimum_wrong_of
returns-then-tried c = rw (c.in-Some.is, ← c.tried.ensures, c.if-tried.true)

pub returns-else-tried : goal.returns-else-tried
unfolding minimum_wrong_of
returns-else-tried c = rw (c.in-Some.is, ← c.tried.ensures, c.if-tried.false)
