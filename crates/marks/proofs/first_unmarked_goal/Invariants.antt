use mathlib.Core.Path.{◌≡◌}
use mathlib.Core.List.{[]}
use Prim.Native.Nat.{◌-◌, ◌≤◌}
use Rattle.fill.specs.FirstFaults.{first_fault}
use Rattle.marks.specs.Rows.{goal_says, said}
use Rattle.marks.specs.Marks.{unmarked}
use Rattle.marks.proofs.Walked.{from_row}
use Rattle.marks.proofs.first_unmarked_goal.Given as goal

abbrev pub invariant-loop-row : goal.invariant-loop-row
invariant-loop-row l = (l.row ≤ l.count) × (from_row (unmarked l.marks) (goal_says l.goals) l.count l.row ≡ first_fault (unmarked l.marks) [] (said (goal_says l.goals) l.count))

abbrev pub decreases-loop-row : goal.decreases-loop-row
decreases-loop-row l = l.count - l.row
