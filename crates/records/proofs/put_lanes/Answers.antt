-- `records::put_lanes` meets its contract. Assumes nothing.
use mathlib.Core.Path.{refl, sym, ap, ◌∙◌}
use native.Mathlib.Omega.{arith}
use Rattle.output.proofs.Writing.{same}
use Rattle.records.specs.Put.{lane_put, lane_from, lanes_put}
use Rattle.map_json.proofs.Loops.{each_all, each_again, each-done}
use Rattle.records.proofs.put_lanes.Goals as goal

pub loop-k-init : goal.loop-k-init
loop-k-init c = (refl, each_all (lane_from c.args.lanes.now) _ c.args.count)

pub loop-k-preserved : goal.loop-k-preserved
unfolding lane_from
loop-k-preserved c =
    let l = c.loop-k in
    let a = c.args in
    (c.put_lane-to.auto.out ∙ l.invariant.0, each_again (lane_from a.lanes.now) _ _ l.k a.count (omega arith) (same (ap lane_put c.lane_at.ensures) c.put_lane-to.ensures) ∙ l.invariant.1)

pub shape_of-out : goal.shape_of-out
shape_of-out c = c.loop-k.invariant.0

pub returns : goal.returns
unfolding lanes_put
returns c =
    let l = c.loop-k in
    let a = c.args in
    record { is = sym l.invariant.1 ∙ each-done (lane_from a.lanes.now) _ l.k a.count (omega arith) }
