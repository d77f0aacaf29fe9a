-- `goal_points::goal_point` meets its contract: no second answer of the look-up is right. Assumes nothing.
use mathlib.Core.Path.{subst}
use Rattle.rows.specs.declared.GoalRow.{GoalRow}
use Rattle.rows.specs.Read.{goal_at_of}
use Rattle.look_up.specs.LookUp.{PointOf}
use Rattle.look_up.proofs.Answers.{point-one, point-some}
use Rattle.goal_points.specs.Goals.{goal_point_of}
use Rattle.goal_points.proofs.goal_point.Goals as goal

pub returns : goal.returns
unfolding goal_point_of
returns c =
    let a = c.args in
    let number = (goal_at_of a.goals.now a.row).number.0 in
    point-one a.checkpoints.now number c.point_of.result (point-some a.checkpoints.now number).answer
    (subst (λ (q : GoalRow). PointOf a.checkpoints.now q.number.0 c.point_of.result) c.goal_at-goal.ensures c.point_of.ensures) (point-some a.checkpoints.now number).right
