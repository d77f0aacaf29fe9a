-- `permitted::on_earth` meets its contract. Assumes nothing.
use mir.Facts.{to_z-of_z}
use Rattle.permitted.proofs.on_earth.Goals as goal

pub returns-then-latitude : goal.returns-then-latitude
returns-then-latitude c = rw (← rw (to_z-of_z c.ranges.a) at c.latitude.ensures, c.if-latitude.true) (rw (to_z-of_z c.ranges.o) at c.longitude.ensures)

pub returns-else-latitude : goal.returns-else-latitude
returns-else-latitude c = rw (← rw (to_z-of_z c.ranges.a) at c.latitude.ensures, c.if-latitude.false)
