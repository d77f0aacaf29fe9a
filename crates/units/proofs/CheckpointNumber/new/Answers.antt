-- `units::CheckpointNumber::new` meets its contract. Assumes nothing.
use mathlib.Core.Path.{refl}
use Rattle.units.specs.Made.{checkpoint_number_of, the_checkpoint_number_of}
use Rattle.units.proofs.Ranges.{mapped}
use Rattle.units.proofs.CheckpointNumber.new.Goals as goal

pub returns : goal.returns
unfolding the_checkpoint_number_of
returns c = mapped checkpoint_number_of (λ v. v.0) (λ v. refl) 1 c.args.number c.map.result (rw c.in_range.ensures at c.map.ensures.cases)
