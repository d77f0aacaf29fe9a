-- `progress::Progress::zone_begun` meets its contract. Assumes nothing.
use mathlib.Core.Path.{refl}
use Rattle.progress.proofs.Progress.zone_begun.Goals as goal

pub returns : goal.returns
returns c = rw c.next_point.ensures refl
