-- `features::put_segment` meets its contract. Assumes nothing.
use mathlib.Core.Path.{refl, sym, ◌∙◌}
use native.Mathlib.Omega.{arith}
use Rattle.output.proofs.Writing.{same, ◌then◌}
use Rattle.features.specs.Drawn.{lane, lane_from, segment_lanes}
use Rattle.map_json.proofs.Loops.{each_all, each_again, each-done}
use Rattle.features.proofs.put_segment.Goals as goal

pub loop-k-init : goal.loop-k-init
loop-k-init c = (refl, refl, each_all (lane_from c.args.text.now c.args.lanes.now c.args.points.now c.args.m c.args.row) _ c.args.row.lanes)

pub loop-k-preserved : goal.loop-k-preserved
unfolding lane_from
loop-k-preserved c =
    let l = c.loop-k in
    let a = c.args in
    (refl, c.put_lane-to.auto.out ∙ c.put_comma-a.auto.out ∙ l.invariant.1, each_again (lane_from a.text.now a.lanes.now a.points.now a.m a.row) _ _ l.k a.row.lanes (omega arith) (c.put_comma-a.ensures then same (λ i. lane a.text.now a.points.now a.row.name a.m (c.behind_one.ensures i) (c.lane_at.ensures i)) c.put_lane-to.ensures) ∙ l.invariant.2)

pub shape_of-out : goal.shape_of-out
shape_of-out c = c.loop-k.invariant.1

pub returns : goal.returns
unfolding segment_lanes
returns c =
    let l = c.loop-k in
    let a = c.args in
    record { is = sym l.invariant.2 ∙ each-done (lane_from a.text.now a.lanes.now a.points.now a.m a.row) _ l.k a.row.lanes (omega arith) }
