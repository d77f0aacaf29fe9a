-- `mend_lines::Before::repeats` meets its contract. Assumes nothing.
use mathlib.Core.Path.{refl}
use Rattle.mend_lines.specs.Forward.{repeats_of}
use Rattle.mend_lines.proofs.Before.repeats.Goals as goal

pub returns : goal.returns
unfolding repeats_of
returns c = rw (c.has-lane.ensures, c.has-perimeter.ensures) refl
