-- `features::walk_segment` meets its contract. Assumes nothing.
use mathlib.Core.Path.{refl, sym, ◌∙◌}
use native.Mathlib.Omega.{arith}
use Rattle.output.specs.Pen.{pen}
use Rattle.features.specs.Drawn.{walk, part_walk, lane_walk}
use Rattle.features.proofs.Loops.{steps_all, steps-again, steps-done}
use Rattle.features.proofs.walk_segment.Goals as goal

pub loop-k-init : goal.loop-k-init
loop-k-init c = (refl, refl, steps_all (lane_walk c.args.lanes.now c.args.points.now c.args.checkpoints.now c.args.count c.args.m c.args.row) _ c.args.row.lanes)

pub loop-k-preserved : goal.loop-k-preserved
unfolding lane_walk
loop-k-preserved c =
    let l = c.loop-k in
    let a = c.args in
    (refl, c.walk_part-to.auto.out ∙ l.invariant.1, steps-again (lane_walk a.lanes.now a.points.now a.checkpoints.now a.count a.m a.row) _ _ l.k a.row.lanes (omega arith) (c.walk_part-to.ensures ∙ (λ i. part_walk a.points.now a.checkpoints.now a.count a.m (c.behind_one.ensures i) (c.lane_at-lane.ensures i).first_point (c.lane_at-lane.ensures i).points (walk (pen l.out l.to.at) l.to.next))) ∙ l.invariant.2)

pub shape_of-out : goal.shape_of-out
shape_of-out c = c.loop-k.invariant.1

pub returns : goal.returns
returns c =
    let l = c.loop-k in
    let a = c.args in
    sym (sym l.invariant.2 ∙ steps-done (lane_walk a.lanes.now a.points.now a.checkpoints.now a.count a.m a.row) _ l.k a.row.lanes (omega arith))
