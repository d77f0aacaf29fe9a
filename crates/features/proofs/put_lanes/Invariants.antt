use mathlib.Core.Path.{◌≡◌}
use Prim.Native.Nat.{◌-◌}
use lib.ListN.{length}
use Rattle.output.specs.Pen.{pen, put}
use Rattle.features.specs.Drawn.{each, segment_from}
use Rattle.features.proofs.put_lanes.Given as goal

abbrev pub invariant-loop-k : goal.invariant-loop-k
invariant-loop-k l = (length l.out ≡ length l.initial.out) × (put (pen l.out l.to) (each (segment_from l.text l.segments l.lanes l.points) l.k (l.count - l.k)) ≡ put (pen l.initial.out l.at) (each (segment_from l.text l.segments l.lanes l.points) 0 (l.count)))

abbrev pub decreases-loop-k : goal.decreases-loop-k
decreases-loop-k l = l.count - l.k
