-- `route::stray` meets its contract: the steps that are left say what all say. Assumes nothing.
use mathlib.Core.Path.{refl, sym, ◌∙◌}
use native.Mathlib.Omega.{arith}
use lib.ListN.{length}
use Rattle.moves.specs.Moves.{is_move}
use Rattle.route.proofs.Steps.{step-on, step-off, steps-done}
use Rattle.route.proofs.stray.Goals as goal

pub loop-place-init : goal.loop-place-init
loop-place-init c = (omega arith, refl)

pub loop-place-preserved : goal.loop-place-preserved
loop-place-preserved c =
    let a = c.args in
    let i = c.loop-place.invariant.0 in
    (omega arith, step-on (is_move a.lanes.now a.zones.now a.exits.now a.c) a.route.now c.loop-place.place (length a.route.now) c.loop-place-test.true (sym c.is_move.ensures ∙ c.if-is_move.true) ∙ c.loop-place.invariant.1)

pub returns-else-is_move : goal.returns-else-is_move
returns-else-is_move c =
    let a = c.args in
    sym (step-off (is_move a.lanes.now a.zones.now a.exits.now a.c) a.route.now c.loop-place.place (length a.route.now) c.loop-place-test.true (sym c.is_move.ensures ∙ c.if-is_move.false)) ∙ c.loop-place.invariant.1

pub returns : goal.returns
returns c =
    let a = c.args in
    sym (steps-done (is_move a.lanes.now a.zones.now a.exits.now a.c) a.route.now c.loop-place.place (length a.route.now) c.loop-place-test.false) ∙ c.loop-place.invariant.1
