use mathlib.Core.Path.{◌≡◌}
use Prim.Native.Nat.{◌-◌, ◌*◌, ◌≤◌}
use Rattle.packed_frame.specs.Segments.{segments}
use Rattle.packed_frame.proofs.segments_at.Given as goal

abbrev pub invariant-loop : goal.invariant-loop
invariant-loop l = (segments (l.count - l.counter) l.bytes l.at l.lanes ≡ segments l.count l.bytes l.from 0) × (l.lanes ≤ 65536 * l.counter)
