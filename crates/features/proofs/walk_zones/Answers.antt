-- `features::walk_zones` meets its contract. Assumes nothing.
use mathlib.Core.Path.{refl, sym, ◌∙◌}
use native.Mathlib.Omega.{arith}
use Rattle.output.specs.Pen.{pen}
use Rattle.features.specs.Drawn.{steps, walk, spot_walk, zone_walk}
use Rattle.features.proofs.Loops.{steps_all, steps-again, steps-done}
use Rattle.features.proofs.walk_zones.Goals as goal

pub loop-k-init : goal.loop-k-init
loop-k-init c = (refl, steps_all (zone_walk c.args.zones.now c.args.spots.now c.args.points.now c.args.checkpoints.now c.args.count c.args.segments) _ c.args.zone_count)

pub loop-k-preserved : goal.loop-k-preserved
unfolding zone_walk
loop-k-preserved c =
    let l = c.loop-k in
    let a = c.args in
    (c.walk_zone-to.auto.out ∙ l.invariant.0, steps-again (zone_walk a.zones.now a.spots.now a.points.now a.checkpoints.now a.count a.segments) _ _ l.k a.zone_count (omega arith) (c.walk_zone-to.ensures ∙ (λ i. steps (spot_walk a.spots.now a.points.now a.checkpoints.now a.count (c.behind_one.ensures i) (c.zone_at.ensures i)) 0 (c.zone_at.ensures i).spots (walk (pen l.out l.to.at) l.to.next))) ∙ l.invariant.1)

pub shape_of-out : goal.shape_of-out
shape_of-out c = c.loop-k.invariant.0

pub returns : goal.returns
returns c =
    let l = c.loop-k in
    let a = c.args in
    sym (sym l.invariant.1 ∙ steps-done (zone_walk a.zones.now a.spots.now a.points.now a.checkpoints.now a.count a.segments) _ l.k a.zone_count (omega arith))
