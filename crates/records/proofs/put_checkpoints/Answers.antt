-- `records::put_checkpoints` meets its contract. Assumes nothing.
use mathlib.Core.Path.{refl, sym, ap, ◌∙◌}
use native.Mathlib.Omega.{arith}
use Rattle.output.proofs.Writing.{same}
use Rattle.records.specs.Put.{checkpoint_put, checkpoint_from, checkpoints_put}
use Rattle.map_json.proofs.Loops.{each_all, each_again, each-done}
use Rattle.records.proofs.put_checkpoints.Goals as goal

pub loop-k-init : goal.loop-k-init
loop-k-init c = (refl, each_all (checkpoint_from c.args.checkpoints.now) _ c.args.count)

pub loop-k-preserved : goal.loop-k-preserved
unfolding checkpoint_from
loop-k-preserved c =
    let l = c.loop-k in
    let a = c.args in
    (c.put_checkpoint-to.auto.out ∙ l.invariant.0, each_again (checkpoint_from a.checkpoints.now) _ _ l.k a.count (omega arith) (same (ap checkpoint_put c.checkpoint_at.ensures) c.put_checkpoint-to.ensures) ∙ l.invariant.1)

pub shape_of-out : goal.shape_of-out
shape_of-out c = c.loop-k.invariant.0

pub returns : goal.returns
unfolding checkpoints_put
returns c =
    let l = c.loop-k in
    let a = c.args in
    record { is = sym l.invariant.1 ∙ each-done (checkpoint_from a.checkpoints.now) _ l.k a.count (omega arith) }
