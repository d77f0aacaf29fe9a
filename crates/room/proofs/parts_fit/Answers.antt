use mathlib.Core.Path.{refl}
use Rattle.room.specs.Room.{parts_fit_of}
use Rattle.room.proofs.parts_fit.Goals as goal

pub returns-then-fits-3 : goal.returns-then-fits-3
unfolding parts_fit_of
returns-then-fits-3 c = rw (← c.fits.ensures, c.if-fits.true, ← c.fits-then-fits.ensures, c.if-fits-2.true, ← c.fits-then-fits-2.ensures, c.if-fits-3.true) c.fits-then-fits-3.ensures

pub returns-else-fits-3 : goal.returns-else-fits-3
unfolding parts_fit_of
returns-else-fits-3 c = rw (← c.fits.ensures, c.if-fits.true, ← c.fits-then-fits.ensures, c.if-fits-2.true, ← c.fits-then-fits-2.ensures, c.if-fits-3.false) refl

pub returns-else-fits-2 : goal.returns-else-fits-2
unfolding parts_fit_of
returns-else-fits-2 c = rw (← c.fits.ensures, c.if-fits.true, ← c.fits-then-fits.ensures, c.if-fits-2.false) refl

pub returns-else-fits : goal.returns-else-fits
unfolding parts_fit_of
returns-else-fits c = rw (← c.fits.ensures, c.if-fits.false) refl
