-- `legs::first_unmarked` meets its contract: the legs that are left say what all say. Assumes nothing.
use mathlib.Core.Path.{◌≡◌, sym, ◌∙◌}
use native.Mathlib.Omega.{arith}
use Rattle.goal_points.specs.Goals.{goal_point_of}
use Rattle.legs.specs.Legs.{unmarked}
use Rattle.legs.proofs.Steps.{first-here, first_on, first-over}
use Rattle.legs.proofs.first_unmarked.Goals as goal

pub returns-then-unmarked : goal.returns-then-unmarked
returns-then-unmarked c =
    let a = c.args in
    first-here (unmarked a.goals.now (goal_point_of a.checkpoints.now a.goals.now) a.work.now a.number) c.loop-leg.leg a.bad c.loop-leg-test.true (sym c.unmarked.ensures ∙ c.if-unmarked.true) ∙ c.loop-leg.invariant.0

pub loop-leg-preserved : goal.loop-leg-preserved
loop-leg-preserved c =
    let a = c.args in
    (first_on (unmarked a.goals.now (goal_point_of a.checkpoints.now a.goals.now) a.work.now a.number) c.loop-leg.leg a.bad c.loop-leg-test.true (sym c.unmarked.ensures ∙ c.if-unmarked.false) ∙ c.loop-leg.invariant.0, omega arith)

pub returns : goal.returns
returns c =
    let a = c.args in
    let end : c.max.result ≡ c.loop-leg.leg = omega (arith, c.max.ensures, c.loop-leg.invariant.1, c.loop-leg.auto.leg) in
    end ∙ first-over (unmarked a.goals.now (goal_point_of a.checkpoints.now a.goals.now) a.work.now a.number) c.loop-leg.leg a.bad c.loop-leg-test.false ∙ c.loop-leg.invariant.0
