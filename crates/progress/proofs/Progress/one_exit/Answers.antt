-- `progress::Progress::one_exit` meets its contract. Assumes nothing.
use mathlib.Core.Path.{refl}
use Rattle.progress.proofs.Progress.one_exit.Goals as goal

pub returns : goal.returns
returns c = rw c.one_more.ensures refl
