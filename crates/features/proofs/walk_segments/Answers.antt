-- `features::walk_segments` meets its contract. Assumes nothing.
use mathlib.Core.Path.{refl, sym, ◌∙◌}
use native.Mathlib.Omega.{arith}
use Rattle.output.specs.Pen.{pen}
use Rattle.features.specs.Drawn.{steps, walk, lane_walk, segment_walk}
use Rattle.features.proofs.Loops.{steps_all, steps-again, steps-done}
use Rattle.features.proofs.walk_segments.Goals as goal

pub loop-k-init : goal.loop-k-init
loop-k-init c = (refl, steps_all (segment_walk c.args.segments.now c.args.lanes.now c.args.points.now c.args.checkpoints.now c.args.count) _ c.args.segment_count)

pub loop-k-preserved : goal.loop-k-preserved
unfolding segment_walk
loop-k-preserved c =
    let l = c.loop-k in
    let a = c.args in
    (c.walk_segment-to.auto.out ∙ l.invariant.0, steps-again (segment_walk a.segments.now a.lanes.now a.points.now a.checkpoints.now a.count) _ _ l.k a.segment_count (omega arith) (c.walk_segment-to.ensures ∙ (λ i. steps (lane_walk a.lanes.now a.points.now a.checkpoints.now a.count (c.behind_one.ensures i) (c.segment_at.ensures i)) 0 (c.segment_at.ensures i).lanes (walk (pen l.out l.to.at) l.to.next))) ∙ l.invariant.1)

pub shape_of-out : goal.shape_of-out
shape_of-out c = c.loop-k.invariant.0

pub returns : goal.returns
returns c =
    let l = c.loop-k in
    let a = c.args in
    sym (sym l.invariant.1 ∙ steps-done (segment_walk a.segments.now a.lanes.now a.points.now a.checkpoints.now a.count) _ l.k a.segment_count (omega arith))
