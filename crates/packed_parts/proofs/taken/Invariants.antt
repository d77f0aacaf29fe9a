use mathlib.Core.Path.{◌≡◌}
use Prim.Native.Nat.{◌+◌, ◌-◌, ◌*◌}
use Rattle.packed_parts.specs.Parts.{cell_at, lanes_take}
use Rattle.packed_parts.proofs.taken.Given as goal

abbrev pub invariant-loop-lane : goal.invariant-loop-lane
invariant-loop-lane l = lanes_take (cell_at l.bytes l.rows.from l.step l.offset) l.rows.count (l.lanes.count - l.lane) l.bytes (l.lanes.from + 12 * l.lane) l.row ≡ lanes_take (cell_at l.bytes l.rows.from l.step l.offset) l.rows.count l.lanes.count l.bytes l.lanes.from 0
