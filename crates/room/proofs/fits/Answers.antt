use mathlib.Core.Path.{refl}
use Rattle.room.proofs.fits.Goals as goal

pub returns : goal.returns
returns c = rw c.rows_of.ensures refl
