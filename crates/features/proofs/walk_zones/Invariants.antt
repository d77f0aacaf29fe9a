use mathlib.Core.Path.{◌≡◌}
use Prim.Native.Nat.{◌-◌}
use lib.ListN.{length}
use Rattle.output.specs.Pen.{pen}
use Rattle.features.specs.Drawn.{steps, walk, zone_walk}
use Rattle.features.proofs.walk_zones.Given as goal

abbrev pub invariant-loop-k : goal.invariant-loop-k
invariant-loop-k l = (length l.out ≡ length l.initial.out) × (steps (zone_walk l.zones l.spots l.points l.checkpoints l.count l.segments) l.k (l.zone_count - l.k) (walk (pen l.out l.to.at) l.to.next) ≡ steps (zone_walk l.zones l.spots l.points l.checkpoints l.count l.segments) 0 (l.zone_count) (walk (pen l.initial.out l.initial.to.at) l.initial.to.next))

abbrev pub decreases-loop-k : goal.decreases-loop-k
decreases-loop-k l = l.zone_count - l.k
