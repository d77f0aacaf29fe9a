use mathlib.Core.Path.{◌≡◌}
use Prim.Native.Nat.{◌-◌, ◌*◌, ◌≤◌}
use Rattle.packed_rows.specs.Lanes.{lanes_right}
use Rattle.packed_rows.proofs.are_lanes.Given as goal

abbrev pub invariant-loop : goal.invariant-loop
invariant-loop l = (lanes_right (l.count - l.counter) l.bytes l.at l.sum ≡ lanes_right l.count l.bytes l.from 0) × (l.sum ≤ 65536 * l.counter)
