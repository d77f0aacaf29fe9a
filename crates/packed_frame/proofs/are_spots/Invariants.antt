use mathlib.Core.Path.{◌≡◌}
use Prim.Native.Nat.{◌-◌}
use Rattle.packed_frame.specs.Spots.{all_spots}
use Rattle.packed_frame.proofs.are_spots.Given as goal

abbrev pub invariant-loop : goal.invariant-loop
invariant-loop l = all_spots (l.count - l.counter) l.bytes l.zone l.at ≡ all_spots l.count l.bytes l.from l.spots
