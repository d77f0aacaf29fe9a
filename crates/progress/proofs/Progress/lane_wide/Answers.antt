-- `progress::Progress::lane_wide` meets its contract. Assumes nothing.
use mathlib.Core.Path.{refl}
use Rattle.progress.specs.After.{after_within}
use Rattle.progress.proofs.Progress.lane_wide.Goals as goal

pub returns : goal.returns
unfolding after_within
returns c = rw c.feet-self.ensures refl
