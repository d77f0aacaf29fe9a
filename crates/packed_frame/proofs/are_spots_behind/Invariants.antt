use mathlib.Core.Path.{◌≡◌}
use Prim.Native.Nat.{◌+◌, ◌-◌, ◌*◌}
use Rattle.packed_frame.specs.Spots.{spots_right}
use Rattle.packed_frame.proofs.are_spots_behind.Given as goal

abbrev pub invariant-loop : goal.invariant-loop
invariant-loop l = (spots_right (l.count - l.counter) l.bytes l.at l.point ≡ spots_right l.count l.bytes l.from (l.begin + l.points)) × (l.point ≡ l.begin + l.points + 2 * l.counter)
