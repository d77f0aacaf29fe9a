-- `reader::mdf_refused` meets its contract. Assumes nothing.
use mathlib.Core.Path.{refl}
use Rattle.reader.proofs.mdf_refused.Goals as goal

pub returns : goal.returns
returns c = rw c.mdf_told-column.ensures refl
