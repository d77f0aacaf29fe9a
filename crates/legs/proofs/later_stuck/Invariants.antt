use mathlib.Core.Path.{◌≡◌}
use Prim.Native.Nat.{◌-◌, ◌<◌}
use lib.ListN.{length}
use Rattle.search.specs.Search.{leads_to_of}
use Rattle.goal_points.specs.Goals.{goal_point_of}
use Rattle.legs.proofs.Steps.{Looked}
use Rattle.legs.proofs.later_stuck.Given as goal

abbrev pub invariant-loop-row : goal.invariant-loop-row
invariant-loop-row l = (length l.work ≡ length l.initial.work) × (0 < l.row) × Looked (leads_to_of l.lanes l.zones l.exits l.c (length l.initial.work)) (goal_point_of l.checkpoints l.goals) l.goals l.count l.row l.bad

abbrev pub decreases-loop-row : goal.decreases-loop-row
decreases-loop-row l = l.count - l.row
