-- `progress::Progress::segment_begun` meets its contract. Assumes nothing.
use mathlib.Core.Path.{refl}
use Rattle.progress.proofs.Progress.segment_begun.Goals as goal

pub returns : goal.returns
returns c = refl
