use mathlib.Core.Path.{◌≡◌}
use mathlib.Core.List.{[]}
use Prim.Native.Nat.{◌-◌, ◌≤◌}
use Rattle.fill.specs.FirstFaults.{first_fault}
use Rattle.marks.specs.Rows.{limit_says, said}
use Rattle.marks.specs.Tests.{unfitting}
use Rattle.marks.proofs.Seen.{Marked}
use Rattle.marks.proofs.Walked.{from_row}
use Rattle.marks.proofs.first_bad_limit.Given as goal

abbrev pub invariant-loop-row : goal.invariant-loop-row
invariant-loop-row l = (l.row ≤ l.limit_count) × Marked (said (limit_says l.limits) l.row) l.marks × (from_row (unfitting l.parts) (limit_says l.limits) l.limit_count l.row ≡ first_fault (unfitting l.parts) [] (said (limit_says l.limits) l.limit_count))

abbrev pub decreases-loop-row : goal.decreases-loop-row
decreases-loop-row l = l.limit_count - l.row
