-- `features::put_perimeters` meets its contract. Assumes nothing.
use mathlib.Core.Path.{refl, sym, ◌∙◌}
use native.Mathlib.Omega.{arith}
use Rattle.output.proofs.Writing.{same}
use Rattle.features.specs.Drawn.{perimeter, perimeter_from, all_perimeters}
use Rattle.map_json.proofs.Loops.{each_all, each_again, each-done}
use Rattle.features.proofs.put_perimeters.Goals as goal

pub loop-k-init : goal.loop-k-init
loop-k-init c = (refl, each_all (perimeter_from c.args.text.now c.args.zones.now c.args.points.now c.args.segments) _ c.args.count)

pub loop-k-preserved : goal.loop-k-preserved
unfolding perimeter_from
loop-k-preserved c =
    let l = c.loop-k in
    let a = c.args in
    (c.put_perimeter-to.auto.out ∙ l.invariant.0, each_again (perimeter_from a.text.now a.zones.now a.points.now a.segments) _ _ l.k a.count (omega arith) (same (λ i. perimeter a.text.now a.points.now (c.behind_one.ensures i) (c.zone_at.ensures i)) c.put_perimeter-to.ensures) ∙ l.invariant.1)

pub shape_of-out : goal.shape_of-out
shape_of-out c = c.loop-k.invariant.0

pub returns : goal.returns
unfolding all_perimeters
returns c =
    let l = c.loop-k in
    let a = c.args in
    record { is = sym l.invariant.1 ∙ each-done (perimeter_from a.text.now a.zones.now a.points.now a.segments) _ l.k a.count (omega arith) }
