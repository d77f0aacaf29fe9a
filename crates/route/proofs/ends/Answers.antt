-- `route::ends` meets its contract. Assumes nothing.
use mathlib.Core.Path.{ap, ◌∙◌}
use lib.Dec.{eqb}
use Rattle.goal_points.specs.Goals.{goal_point_of}
use Rattle.route.specs.Judged.{ends}
use Rattle.route.proofs.ends.Goals as goal

pub returns : goal.returns
unfolding ends
returns c =
    let a = c.args in
    let point = c.goal_point.ensures ∙ ap (goal_point_of a.checkpoints.now a.goals.now) c.last_row.ensures in
    λ i. eqb (c.last_point.ensures i) (point i)
