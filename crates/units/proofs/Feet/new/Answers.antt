-- `units::Feet::new` meets its contract. Assumes nothing.
use mathlib.Core.Path.{refl}
use Rattle.units.specs.Made.{feet, feet_of}
use Rattle.units.proofs.Ranges.{mapped}
use Rattle.units.proofs.Feet.new.Goals as goal

pub returns : goal.returns
unfolding feet_of
returns c = mapped feet (λ v. v.0) (λ v. refl) 0 c.args.feet c.map.result (rw c.in_range.ensures at c.map.ensures.cases)
