use mathlib.Core.Path.{◌≡◌}
use Prim.Native.Nat.{◌-◌, ◌≤◌}
use Rattle.marks.specs.Rows.{checkpoint_says, said}
use Rattle.marks.specs.Marks.{mark_all}
use Rattle.marks.proofs.mark_checkpoints.Given as goal

abbrev pub invariant-loop-row : goal.invariant-loop-row
invariant-loop-row l = (l.row ≤ l.count) × (l.marks ≡ mark_all l.initial.marks (said (checkpoint_says l.checkpoints) l.row))

abbrev pub decreases-loop-row : goal.decreases-loop-row
decreases-loop-row l = l.count - l.row
