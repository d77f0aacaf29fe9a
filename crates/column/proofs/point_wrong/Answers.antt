-- `column::point_wrong` meets its contract. Assumes nothing.
use Rattle.columns.specs.RndfColumns.{point_wrong_of}
use Rattle.column.proofs.point_wrong.Goals as goal

pub returns-in_default : goal.returns-in_default
unfolding point_wrong_of
returns-in_default c = rw c.in_default.is

pub returns-then-tried : goal.returns-then-tried
unfolding point_wrong_of
returns-then-tried c = rw (c.in-Some.is, ← c.passes.ensures, ← c.tried.ensures, c.if-tried.true) c.latitude_wrong.ensures

pub returns-else-tried : goal.returns-else-tried
unfolding point_wrong_of
returns-else-tried c = rw (c.in-Some.is, ← c.passes.ensures, ← c.tried.ensures, c.if-tried.false)
