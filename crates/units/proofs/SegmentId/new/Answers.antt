-- `units::SegmentId::new` meets its contract. Assumes nothing.
use mathlib.Core.Path.{refl}
use Rattle.units.specs.Made.{segment_id_of, the_segment_id_of}
use Rattle.units.proofs.Ranges.{mapped}
use Rattle.units.proofs.SegmentId.new.Goals as goal

pub returns : goal.returns
unfolding the_segment_id_of
returns c = mapped segment_id_of (λ v. v.0) (λ v. refl) 1 c.args.id c.map.result (rw c.in_range.ensures at c.map.ensures.cases)
