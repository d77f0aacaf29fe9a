-- `progress::Progress::one_stop` meets its contract. Assumes nothing.
use mathlib.Core.Path.{refl}
use Rattle.progress.proofs.Progress.one_stop.Goals as goal

pub returns : goal.returns
returns c = rw c.one_more.ensures refl
