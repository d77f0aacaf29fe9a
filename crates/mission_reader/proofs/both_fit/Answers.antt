-- `mission_reader::both_fit` meets its contract. Assumes nothing.
use Rattle.mission_reader.specs.MissionReading.{room}
use mathlib.Core.Path.{refl}
use Rattle.mission_reader.proofs.both_fit.Goals as goal

pub returns-then-fits : goal.returns-then-fits
unfolding room
returns-then-fits c = rw (← c.fits.ensures, c.if-fits.true) c.fits-then-fits.ensures

pub returns-else-fits : goal.returns-else-fits
unfolding room
returns-else-fits c = rw (← c.fits.ensures, c.if-fits.false) refl
