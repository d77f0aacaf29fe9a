-- `mend_lines::Before::none` meets its contract. Assumes nothing.
use mathlib.Core.Path.{refl}
use Rattle.mend_lines.specs.Forward.{none_before_of}
use Rattle.mend_lines.proofs.Before.none.Goals as goal

pub returns : goal.returns
unfolding none_before_of
returns c = refl
