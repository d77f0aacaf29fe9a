use mathlib.Core.Path.{◌≡◌}
use Prim.Native.Nat.{◌-◌}
use Rattle.packed_parts.specs.Parts.{cell_at, next_row}
use Rattle.packed_parts.proofs.behind.Given as goal

abbrev pub invariant-loop-at : goal.invariant-loop-at
invariant-loop-at l = next_row (cell_at l.bytes l.rows.from l.step l.offset) l.first l.size (l.rows.count - l.at) l.at ≡ next_row (cell_at l.bytes l.rows.from l.step l.offset) l.first l.size (l.rows.count - l.row) l.row
