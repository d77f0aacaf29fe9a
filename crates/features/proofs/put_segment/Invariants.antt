use mathlib.Core.Path.{◌≡◌}
use Prim.Native.Nat.{◌-◌}
use lib.ListN.{length}
use Rattle.output.specs.Pen.{pen, put}
use Rattle.features.specs.Drawn.{each, lane_from}
use Rattle.features.proofs.put_segment.Given as goal

abbrev pub invariant-loop-k : goal.invariant-loop-k
invariant-loop-k l = (l.k-end ≡ l.row.lanes) × (length l.out ≡ length l.initial.out) × (put (pen l.out l.to) (each (lane_from l.text l.lanes l.points l.m l.row) l.k (l.row.lanes - l.k)) ≡ put (pen l.initial.out l.at) (each (lane_from l.text l.lanes l.points l.m l.row) 0 l.row.lanes))
