-- `map_json::put_positions` meets its contract: what is left to be put are the points from k on. Assumes nothing.
use mathlib.Core.Path.{refl, sym, ◌∙◌}
use native.Mathlib.Omega.{arith}
use Rattle.output.proofs.Writing.{◌then◌}
use Rattle.map_json.specs.Json.{position_from, positions}
use Rattle.map_json.proofs.Loops.{each_all, each_again, each-done}
use Rattle.map_json.proofs.put_positions.Goals as goal

pub loop-k-init : goal.loop-k-init
loop-k-init c = (refl, refl, each_all (position_from c.args.points.now c.args.first) _ c.args.count)

pub loop-k-preserved : goal.loop-k-preserved
unfolding position_from
loop-k-preserved c =
    let l = c.loop-k in
    let a = c.args in
    (refl, c.put_position-to.auto.out ∙ c.put_comma-a.auto.out ∙ l.invariant.1, each_again (position_from a.points.now a.first) _ _ l.k a.count (omega arith) (c.put_comma-a.ensures then c.put_position-to.ensures) ∙ l.invariant.2)

pub shape_of-out : goal.shape_of-out
shape_of-out c = c.loop-k.invariant.1

pub returns : goal.returns
unfolding positions
returns c =
    let l = c.loop-k in
    let a = c.args in
    record { is = sym l.invariant.2 ∙ each-done (position_from a.points.now a.first) _ l.k a.count (omega arith) }
