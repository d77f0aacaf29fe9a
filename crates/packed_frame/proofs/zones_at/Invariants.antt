use mathlib.Core.Path.{◌≡◌}
use Prim.Native.Nat.{◌-◌, ◌*◌, ◌≤◌}
use Rattle.packed_frame.specs.Zones.{zones}
use Rattle.packed_frame.proofs.zones_at.Given as goal

abbrev pub invariant-loop : goal.invariant-loop
invariant-loop l = (zones (l.count - l.counter) l.bytes l.at (l.point, l.spot) ≡ zones l.count l.bytes l.from (l.first, 0)) × (l.spot ≤ 65536 * l.counter)
