-- `features::put_part` meets its contract. Assumes nothing.
use mathlib.Core.Path.{refl, sym, ap, ◌∙◌}
use native.Mathlib.Omega.{arith}
use Rattle.output.proofs.Writing.{same}
use Rattle.features.specs.Drawn.{checkpoint, checkpoint_from, part_checkpoints}
use Rattle.map_json.proofs.Loops.{each_again, each-done}
use Rattle.features.proofs.put_part.Goals as goal

pub loop-row-init : goal.loop-row-init
loop-row-init c = (refl, refl)

pub loop-row-preserved : goal.loop-row-preserved
unfolding checkpoint_from
loop-row-preserved c =
    let l = c.loop-row in
    let a = c.args in
    (c.put_checkpoint-to.auto.out ∙ l.invariant.0, each_again (checkpoint_from a.points.now a.checkpoints.now a.m a.n a.first) _ _ l.row a.end (omega arith) (same (ap (checkpoint a.points.now a.m a.n a.first) c.checkpoint_at.ensures) c.put_checkpoint-to.ensures) ∙ l.invariant.1)

pub shape_of-out : goal.shape_of-out
shape_of-out c = c.loop-row.invariant.0

pub returns : goal.returns
unfolding part_checkpoints
returns c =
    let l = c.loop-row in
    let a = c.args in
    record { is = sym l.invariant.1 ∙ each-done (checkpoint_from a.points.now a.checkpoints.now a.m a.n a.first) _ l.row a.end (omega arith) }
