-- `progress::Progress::right_told` meets its contract. Assumes nothing.
use mathlib.Core.Path.{refl}
use Rattle.progress.specs.After.{after_within}
use Rattle.progress.proofs.Progress.right_told.Goals as goal

pub returns : goal.returns
unfolding after_within
returns c = rw c.side-self.ensures refl
