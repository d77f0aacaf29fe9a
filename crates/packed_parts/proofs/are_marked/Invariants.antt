use mathlib.Core.Path.{◌≡◌}
use Prim.Native.Nat.{◌+◌, ◌-◌, ◌*◌, ◌≤◌, max}
use Rattle.packed_parts.specs.Parts.{cell_at, all_marked}
use Rattle.packed_parts.proofs.are_marked.Given as goal

abbrev pub invariant-loop-i : goal.invariant-loop-i
invariant-loop-i l = (all_marked (cell_at l.bytes l.checkpoints.from 8 4) l.checkpoints.count (l.first + l.size + 2 * l.i) (l.spots - l.i) (l.row + l.i) ≡ all_marked (cell_at l.bytes l.checkpoints.from 8 4) l.checkpoints.count (l.first + l.size) l.spots l.row) × (l.row + l.i ≤ max l.row l.checkpoints.count)
