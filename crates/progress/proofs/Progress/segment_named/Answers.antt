-- `progress::Progress::segment_named` meets its contract. Assumes nothing.
use mathlib.Core.Path.{refl}
use Rattle.progress.specs.After.{after_within}
use Rattle.progress.proofs.Progress.segment_named.Goals as goal

pub returns : goal.returns
unfolding after_within
returns c = rw c.named-self.ensures refl
