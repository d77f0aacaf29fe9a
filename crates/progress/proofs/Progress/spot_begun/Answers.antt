-- `progress::Progress::spot_begun` meets its contract. Assumes nothing.
use mathlib.Core.Path.{refl}
use Rattle.progress.proofs.Progress.spot_begun.Goals as goal

pub returns : goal.returns
returns c = rw (c.missing.ensures, c.next_point-first.ensures) refl
