use mathlib.Core.Path.{◌≡◌}
use Prim.Native.Nat.{◌+◌, ◌-◌, ◌*◌, ◌≤◌}
use Rattle.packed_parts.specs.Parts.{cell_at, zone_exits}
use Rattle.packed_parts.proofs.are_zone_exits.Given as goal

abbrev pub invariant-loop : goal.invariant-loop
invariant-loop l = (zone_exits (cell_at l.bytes l.exits.from 10 2) (cell_at l.bytes l.exits.from 10 6) l.exits.count l.fn.end (l.fn.zones.count - l.counter) l.bytes l.at l.next ≡ zone_exits (cell_at l.bytes l.exits.from 10 2) (cell_at l.bytes l.exits.from 10 6) l.exits.count l.fn.end l.fn.zones.count l.bytes l.fn.zones.from l.row) × (l.at ≤ l.fn.zones.from + 65537 * l.counter)
