use mathlib.Core.Path.{◌≡◌}
use Prim.Native.Nat.{◌-◌}
use lib.ListN.{length}
use Rattle.output.specs.Pen.{pen, put}
use Rattle.map_json.specs.Json.{each, position_from}
use Rattle.map_json.proofs.put_positions.Given as goal

abbrev pub invariant-loop-k : goal.invariant-loop-k
invariant-loop-k l = (l.k-end ≡ l.count) × (length l.out ≡ length l.initial.out) × (put (pen l.out l.to) (each (position_from l.points l.first) l.k (l.count - l.k)) ≡ put (pen l.initial.out l.at) (each (position_from l.points l.first) 0 l.count))
