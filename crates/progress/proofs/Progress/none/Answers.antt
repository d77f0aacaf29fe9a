-- `progress::Progress::none` meets its contract. Assumes nothing.
use mathlib.Core.Path.{refl}
use Rattle.progress.proofs.Progress.none.Goals as goal

pub returns : goal.returns
returns c = refl
