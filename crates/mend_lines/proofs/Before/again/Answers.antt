-- `mend_lines::Before::again` meets its contract. Assumes nothing.
use mathlib.Core.Path.{refl}
use Rattle.mend_lines.specs.Forward.{again_of}
use Rattle.mend_lines.proofs.Before.again.Goals as goal

pub returns : goal.returns
unfolding again_of
returns c = rw (c.is_option-option.ensures, c.has-given.ensures, c.repeats-repeats.ensures) refl
