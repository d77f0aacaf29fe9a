use mathlib.Core.Path.{◌≡◌}
use mathlib.Core.List.{[]}
use Prim.Native.Nat.{◌-◌, ◌≤◌}
use Rattle.fill.specs.FirstFaults.{first_fault}
use Rattle.marks.specs.Rows.{checkpoint_says, said}
use Rattle.marks.specs.Tests.{repeated}
use Rattle.marks.proofs.Seen.{Marked}
use Rattle.marks.proofs.Walked.{from_row}
use Rattle.marks.proofs.first_repeat.Given as goal

abbrev pub invariant-loop-row : goal.invariant-loop-row
invariant-loop-row l = (l.row ≤ l.count) × Marked (said (checkpoint_says l.checkpoints) l.row) l.marks × (from_row repeated (checkpoint_says l.checkpoints) l.count l.row ≡ first_fault repeated [] (said (checkpoint_says l.checkpoints) l.count))

abbrev pub decreases-loop-row : goal.decreases-loop-row
decreases-loop-row l = l.count - l.row
