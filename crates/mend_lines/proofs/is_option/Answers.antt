-- `mend_lines::is_option` meets its contract. Assumes nothing.
use mathlib.Core.Path.{refl}
use Rattle.mend_lines.specs.Forward.{option_of}
use Rattle.mend_lines.proofs.is_option.Goals as goal

pub returns : goal.returns
unfolding option_of
returns c = refl
