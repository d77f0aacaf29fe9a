-- `permitted::the_point` meets its contract. Assumes nothing.
use mir.Facts.{to_z-of_z}
use Rattle.permitted.proofs.Computes.{the-point-is}
use Rattle.permitted.proofs.the_point.Goals as goal

pub returns-then-is_point : goal.returns-then-is_point
returns-then-is_point c = rw (the-point-is, ← c.is_point.ensures, c.if-is_point.true) (rw (to_z-of_z c.ranges.a, to_z-of_z c.ranges.o) at c.on_earth.ensures)

pub returns-else-is_point : goal.returns-else-is_point
returns-else-is_point c = rw (the-point-is, ← c.is_point.ensures, c.if-is_point.false)
