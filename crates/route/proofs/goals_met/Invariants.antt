use mathlib.Core.Path.{◌≡◌}
use Prim.Native.Nat.{◌-◌, ◌≤◌}
use lib.ListN.{length}
use Rattle.goal_points.specs.Goals.{goal_point_of}
use Rattle.route.specs.Judged.{goals_met_of}
use Rattle.route.proofs.goals_met.Given as goal

abbrev pub invariant-loop-place : goal.invariant-loop-place
invariant-loop-place l = (l.taken ≤ l.place) × (l.wanted ≡ goal_point_of l.checkpoints l.goals l.taken)
    × (goals_met_of (goal_point_of l.checkpoints l.goals) l.count l.route l.taken l.place (length l.route - l.place) ≡ goals_met_of (goal_point_of l.checkpoints l.goals) l.count l.route 0 0 (length l.route))

abbrev pub decreases-loop-place : goal.decreases-loop-place
decreases-loop-place l = length l.route - l.place
