use mathlib.Core.Path.{◌≡◌}
use Prim.Native.Nat.{◌-◌}
use lib.ListN.{length}
use Rattle.output.specs.Pen.{pen}
use Rattle.features.specs.Drawn.{steps, walk, lane_walk}
use Rattle.features.proofs.walk_segment.Given as goal

abbrev pub invariant-loop-k : goal.invariant-loop-k
invariant-loop-k l = (l.k-end ≡ l.row.lanes) × (length l.out ≡ length l.initial.out) × (steps (lane_walk l.lanes l.points l.checkpoints l.count l.m l.row) l.k (l.row.lanes - l.k) (walk (pen l.out l.to.at) l.to.next) ≡ steps (lane_walk l.lanes l.points l.checkpoints l.count l.m l.row) 0 l.row.lanes (walk (pen l.initial.out l.initial.to.at) l.initial.to.next))
