-- `progress::Progress::one_point` meets its contract. Assumes nothing.
use mathlib.Core.Path.{refl}
use Rattle.progress.proofs.Progress.one_point.Goals as goal

pub returns : goal.returns
returns c = rw c.one_more.ensures refl
