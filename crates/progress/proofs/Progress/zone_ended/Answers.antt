-- `progress::Progress::zone_ended` meets its contract. Assumes nothing.
use mathlib.Core.Path.{refl}
use Rattle.progress.specs.After.{after_within}
use Rattle.progress.proofs.Progress.zone_ended.Goals as goal

pub returns : goal.returns
unfolding after_within
returns c = rw c.one_more.ensures refl
