-- `scan::is_separator` meets its contract. Assumes nothing.
use mathlib.Core.Path.{refl}
use Rattle.scan.specs.Allowed.{separates}
use Rattle.scan.proofs.is_separator.Goals as goal

pub returns : goal.returns
unfolding separates
returns c = refl
