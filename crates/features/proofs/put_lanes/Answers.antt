-- `features::put_lanes` meets its contract. Assumes nothing.
use mathlib.Core.Path.{refl, sym, ◌∙◌}
use native.Mathlib.Omega.{arith}
use Rattle.output.proofs.Writing.{same}
use Rattle.features.specs.Drawn.{segment_lanes, segment_from, all_lanes}
use Rattle.map_json.proofs.Loops.{each_all, each_again, each-done}
use Rattle.features.proofs.put_lanes.Goals as goal

pub loop-k-init : goal.loop-k-init
loop-k-init c = (refl, each_all (segment_from c.args.text.now c.args.segments.now c.args.lanes.now c.args.points.now) _ c.args.count)

pub loop-k-preserved : goal.loop-k-preserved
unfolding segment_from
loop-k-preserved c =
    let l = c.loop-k in
    let a = c.args in
    (c.put_segment-to.auto.out ∙ l.invariant.0, each_again (segment_from a.text.now a.segments.now a.lanes.now a.points.now) _ _ l.k a.count (omega arith) (same (λ i. segment_lanes a.text.now a.lanes.now a.points.now (c.behind_one.ensures i) (c.segment_at.ensures i)) c.put_segment-to.ensures) ∙ l.invariant.1)

pub shape_of-out : goal.shape_of-out
shape_of-out c = c.loop-k.invariant.0

pub returns : goal.returns
unfolding all_lanes
returns c =
    let l = c.loop-k in
    let a = c.args in
    record { is = sym l.invariant.1 ∙ each-done (segment_from a.text.now a.segments.now a.lanes.now a.points.now) _ l.k a.count (omega arith) }
