-- `progress::Progress::version_told` meets its contract. Assumes nothing.
use mathlib.Core.Path.{refl}
use Rattle.progress.specs.After.{after_within}
use Rattle.progress.proofs.Progress.version_told.Goals as goal

pub returns : goal.returns
unfolding after_within
returns c = rw c.named-self.ensures refl
