use mathlib.Core.Path.{◌≡◌}
use Prim.Native.Nat.{◌-◌}
use Rattle.references.specs.Finding.{look_in}
use Rattle.references.specs.Exits.{resolved_from, left_from}
use Rattle.references.proofs.resolve_exits.Given as goal

abbrev pub invariant-loop-row : goal.invariant-loop-row
invariant-loop-row l = (resolved_from l.text (look_in l.segments l.lanes l.zones) l.segment_count l.exits l.row (l.exit_count - l.row) ≡ resolved_from l.text (look_in l.segments l.lanes l.zones) l.segment_count l.initial.exits 0 l.exit_count) × (left_from l.text (look_in l.segments l.lanes l.zones) l.segment_count l.exits l.row (l.exit_count - l.row) ≡ left_from l.text (look_in l.segments l.lanes l.zones) l.segment_count l.initial.exits 0 l.exit_count)
