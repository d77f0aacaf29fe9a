use mathlib.Core.Path.{◌≡◌}
use Prim.Native.Nat.{◌-◌}
use lib.ListN.{length}
use Rattle.output.specs.Pen.{pen}
use Rattle.features.specs.Drawn.{steps, walk, segment_walk}
use Rattle.features.proofs.walk_segments.Given as goal

abbrev pub invariant-loop-k : goal.invariant-loop-k
invariant-loop-k l = (length l.out ≡ length l.initial.out) × (steps (segment_walk l.segments l.lanes l.points l.checkpoints l.count) l.k (l.segment_count - l.k) (walk (pen l.out l.to.at) l.to.next) ≡ steps (segment_walk l.segments l.lanes l.points l.checkpoints l.count) 0 (l.segment_count) (walk (pen l.initial.out l.initial.to.at) l.initial.to.next))

abbrev pub decreases-loop-k : goal.decreases-loop-k
decreases-loop-k l = l.segment_count - l.k
