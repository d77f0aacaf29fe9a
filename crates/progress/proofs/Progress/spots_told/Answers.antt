-- `progress::Progress::spots_told` meets its contract. Assumes nothing.
use mathlib.Core.Path.{refl}
use Rattle.progress.specs.After.{after_within}
use Rattle.progress.proofs.Progress.spots_told.Goals as goal

pub returns : goal.returns
unfolding after_within
returns c = rw c.spots_from-self.ensures refl
