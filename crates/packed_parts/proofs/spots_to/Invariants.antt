use Prim.Native.Nat.{◌-◌}
use Rattle.packed_parts.specs.Parts.{cell_at}
use Rattle.packed_parts.proofs.EntryLaws.{Halving}
use Rattle.packed_parts.proofs.spots_to.Given as goal

abbrev pub invariant-loop-low : goal.invariant-loop-low
invariant-loop-low l = Halving (cell_at l.bytes l.spots.from 8 2) l.point l.spots.count l.low l.high

abbrev pub decreases-loop-low : goal.decreases-loop-low
decreases-loop-low l = l.high - l.low
