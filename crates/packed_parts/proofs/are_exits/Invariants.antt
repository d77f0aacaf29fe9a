use mathlib.Core.Path.{◌≡◌}
use Prim.Native.Nat.{◌-◌}
use Rattle.packed_parts.specs.Parts.{cell_at}
use Rattle.packed_parts.specs.Entries.{exits_right}
use Rattle.packed_parts.proofs.are_exits.Given as goal

abbrev pub invariant-loop : goal.invariant-loop
invariant-loop l = exits_right (l.count - l.counter) l.bytes l.at (cell_at l.bytes l.spots.from 8 2) l.spots.count l.points l.end ≡ exits_right l.count l.bytes l.from (cell_at l.bytes l.spots.from 8 2) l.spots.count l.points l.end
