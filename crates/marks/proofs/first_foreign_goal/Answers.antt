-- `marks::first_foreign_goal` meets its contract: its marks are cleared, and then those of the checkpoints' numbers. Assumes nothing.
use mathlib.Core.Path.{refl, ap, ◌∙◌}
use mathlib.Core.List.{[]}
use Rattle.marks.specs.Rows.{checkpoint_says, goal_says, said}
use Rattle.marks.specs.Tests.{row_of, first_foreign_goal_of}
use Rattle.marks.proofs.Marks.{cleared}
use Rattle.marks.proofs.Seen.{none-marked, all_marked, goals-by-marks}
use Rattle.marks.proofs.first_foreign_goal.Goals as goal

pub returns : goal.returns
unfolding first_foreign_goal_of
returns c =
    let a = c.args in
    let numbers = said (checkpoint_says a.checkpoints.now) a.checkpoint_count in
    c.first_unmarked_goal.ensures ∙ ap row_of (goals-by-marks c.mark_checkpoints.new.marks numbers (said (goal_says a.goals.now) a.goal_count) (rw c.mark_checkpoints.ensures (all_marked [] numbers (cleared 4096) (none-marked 4096 refl))))
