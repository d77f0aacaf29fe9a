-- `mend_lines::Before::after` meets its contract. Assumes nothing.
use mathlib.Core.Path.{refl}
use Rattle.mend_lines.specs.Forward.{after_of}
use Rattle.mend_lines.proofs.Before.after.Goals as goal

pub returns : goal.returns
unfolding after_of
returns c = rw (c.with_kind-since.ensures, c.kept.ensures, c.opens_part.ensures) refl
