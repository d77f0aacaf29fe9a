-- `units::Mph::new` meets its contract. Assumes nothing.
use mathlib.Core.Path.{refl}
use Rattle.units.specs.Made.{mph, mph_of}
use Rattle.units.proofs.Ranges.{mapped}
use Rattle.units.proofs.Mph.new.Goals as goal

pub returns : goal.returns
unfolding mph_of
returns c = mapped mph (λ v. v.0) (λ v. refl) 0 c.args.mph c.map.result (rw c.in_range.ensures at c.map.ensures.cases)
