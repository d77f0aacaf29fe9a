use mathlib.Core.Path.{◌≡◌}
use Prim.Native.Nat.{◌-◌}
use lib.ListN.{length}
use Rattle.output.specs.Pen.{pen, put}
use Rattle.map_json.specs.Json.{each, position_back}
use Rattle.map_json.proofs.put_ring.Given as goal

abbrev pub invariant-loop-k : goal.invariant-loop-k
invariant-loop-k l = (l.n ≡ l.count) × (length l.out ≡ length l.initial.out) × (put (pen l.out l.to) (each (position_back l.points l.first l.count) l.k (l.count - l.k)) ≡ put (pen l.initial.out l.at) (each (position_back l.points l.first l.count) 0 l.count))

abbrev pub decreases-loop-k : goal.decreases-loop-k
decreases-loop-k l = l.n - l.k
