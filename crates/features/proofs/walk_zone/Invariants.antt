use mathlib.Core.Path.{◌≡◌}
use Prim.Native.Nat.{◌-◌}
use lib.ListN.{length}
use Rattle.output.specs.Pen.{pen}
use Rattle.features.specs.Drawn.{steps, walk, spot_walk}
use Rattle.features.proofs.walk_zone.Given as goal

abbrev pub invariant-loop-k : goal.invariant-loop-k
invariant-loop-k l = (l.k-end ≡ l.row.spots) × (length l.out ≡ length l.initial.out) × (steps (spot_walk l.spots l.points l.checkpoints l.count l.m l.row) l.k (l.row.spots - l.k) (walk (pen l.out l.to.at) l.to.next) ≡ steps (spot_walk l.spots l.points l.checkpoints l.count l.m l.row) 0 l.row.spots (walk (pen l.initial.out l.initial.to.at) l.initial.to.next))
