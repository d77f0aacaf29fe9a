use mathlib.Core.Path.{◌≡◌}
use Prim.Native.Nat.{◌-◌}
use Rattle.packed_rows.specs.Points.{points_right}
use Rattle.packed_rows.proofs.are_points.Given as goal

abbrev pub invariant-loop : goal.invariant-loop
invariant-loop l = points_right (l.count - l.counter) l.bytes l.at ≡ points_right l.count l.bytes l.from
