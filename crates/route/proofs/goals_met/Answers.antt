-- `route::goals_met` meets its contract: the places that are left say what all say. Assumes nothing.
use mathlib.Core.Path.{◌≡◌, sym, ap, ◌∙◌}
use Prim.Native.Nat.{◌-◌}
use native.Mathlib.Omega.{arith}
use lib.ListN.{length}
use Rattle.goal_points.specs.Goals.{goal_point_of}
use Rattle.route.specs.Judged.{goals_met_of}
use Rattle.route.proofs.Taking.{goals-done, all-taken, goal-here, goal-not-here}
use Rattle.route.proofs.goals_met.Goals as goal

pub loop-place-init : goal.loop-place-init
loop-place-init c =
    let a = c.args in
    let all : length a.route.now - 0 ≡ length a.route.now = omega arith in
    (omega arith, c.goal_point-wanted.ensures, ap (goals_met_of (goal_point_of a.checkpoints.now a.goals.now) a.count a.route.now 0 0) all)

pub returns-then-count-taken : goal.returns-then-count-taken
returns-then-count-taken c =
    let a = c.args in
    sym (all-taken (goal_point_of a.checkpoints.now a.goals.now) a.count a.route.now c.loop-place.taken c.loop-place.place (length a.route.now) c.loop-place-test.true c.if-count-taken.true) ∙ c.loop-place.invariant.2

pub loop-place-preserved-then-route-place : goal.loop-place-preserved-then-route-place
loop-place-preserved-then-route-place c =
    let a = c.args in
    let i = c.loop-place.invariant.0 in
    (omega arith, c.goal_point-wanted-then-route-place.ensures, goal-here (goal_point_of a.checkpoints.now a.goals.now) a.count a.route.now c.loop-place.taken c.loop-place.place (length a.route.now) c.loop-place-test.true c.if-count-taken.false (c.if-route-place.true ∙ c.loop-place.invariant.1) ∙ c.loop-place.invariant.2)

pub loop-place-preserved : goal.loop-place-preserved
loop-place-preserved c =
    let a = c.args in
    let i = c.loop-place.invariant.0 in
    (omega arith, c.loop-place.invariant.1, goal-not-here (goal_point_of a.checkpoints.now a.goals.now) a.count a.route.now c.loop-place.taken c.loop-place.place (length a.route.now) c.loop-place-test.true c.if-count-taken.false (λ e. c.if-route-place.false (e ∙ sym c.loop-place.invariant.1)) ∙ c.loop-place.invariant.2)

pub returns : goal.returns
returns c =
    let a = c.args in
    sym (goals-done (goal_point_of a.checkpoints.now a.goals.now) a.count a.route.now c.loop-place.taken c.loop-place.place (length a.route.now) c.loop-place-test.false) ∙ c.loop-place.invariant.2
