use mathlib.Core.Path.{◌≡◌}
use Prim.Native.Nat.{◌+◌, ◌-◌, ◌*◌, ◌≤◌}
use Rattle.packed_parts.specs.Parts.{cell_at, zone_checkpoints}
use Rattle.packed_parts.proofs.are_zone_checkpoints.Given as goal

abbrev pub invariant-loop : goal.invariant-loop
invariant-loop l = (zone_checkpoints (cell_at l.bytes l.checkpoints.from 8 4) l.checkpoints.count (l.fn.zones.count - l.counter) l.bytes l.at l.next ≡ zone_checkpoints (cell_at l.bytes l.checkpoints.from 8 4) l.checkpoints.count l.fn.zones.count l.bytes l.fn.zones.from l.row) × (l.at ≤ l.fn.zones.from + 65537 * l.counter)
