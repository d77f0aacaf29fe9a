-- `reader::rndf_refused` meets its contract. Assumes nothing.
use mathlib.Core.Path.{refl}
use Rattle.reader.proofs.rndf_refused.Goals as goal

pub returns : goal.returns
returns c = rw c.rndf_told-column.ensures refl
