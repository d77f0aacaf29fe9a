use mathlib.Core.Path.{◌≡◌}
use Prim.Native.Nat.{◌-◌, ◌≤◌, max}
use Rattle.goal_points.specs.Goals.{goal_point_of}
use Rattle.legs.specs.Legs.{unmarked, first-of}
use Rattle.legs.proofs.first_unmarked.Given as goal

abbrev pub invariant-loop-leg : goal.invariant-loop-leg
invariant-loop-leg l =
    (first-of (unmarked l.goals (goal_point_of l.checkpoints l.goals) l.work l.number) l.leg (l.bad - l.leg) ≡ first-of (unmarked l.goals (goal_point_of l.checkpoints l.goals) l.work l.number) l.row (l.bad - l.row))
    × (l.leg ≤ max l.row l.bad)
