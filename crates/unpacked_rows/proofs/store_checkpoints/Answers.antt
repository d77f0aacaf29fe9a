-- `unpacked_rows::store_checkpoints` meets its contract. Assumes nothing.
use Rattle.rows.specs.declared.CheckpointRow.{CheckpointRow}
use Rattle.unpacked_rows.proofs.Storing.{stored-all, stored-again, stored-done}
use Rattle.unpacked_rows.specs.Told.{checkpoint_told_of, behind_sized}
use Rattle.rows.specs.Lay.{put_row_of}
use Rattle.rows.specs.Strides.{checkpoint_stride}
use Rattle.rows.specs.Columns.{checkpoint_words_of}
use native.Mathlib.Omega.{arith}
use mathlib.Core.Path.{refl, sym, ap, ◌∙◌}
use Rattle.unpacked_rows.proofs.store_checkpoints.Goals as goal

pub loop-k-init : goal.loop-k-init
loop-k-init c = (refl, stored-all checkpoint_stride checkpoint_words_of checkpoint_told_of (behind_sized 8) c.args.bytes.now _ _ c.args.count)

pub loop-k-preserved : goal.loop-k-preserved
loop-k-preserved c =
    let l = c.loop-k in
    let a = c.args in (
      c.store_checkpoint.auto.t ∙ l.invariant.0,
      stored-again checkpoint_stride checkpoint_words_of checkpoint_told_of (behind_sized 8) a.bytes.now l.checkpoints _ l.at _ l.k a.count (omega arith) (c.store_checkpoint.ensures ∙ ap (λ (r : CheckpointRow). put_row_of checkpoint_stride l.checkpoints l.k (checkpoint_words_of r)) c.checkpoint_told.ensures) c.behind-at.ensures ∙ l.invariant.1,
    )

pub shape_of-checkpoints : goal.shape_of-checkpoints
shape_of-checkpoints c = c.loop-k.invariant.0

pub returns : goal.returns
returns c =
    let l = c.loop-k in
    let a = c.args in
    sym (stored-done checkpoint_stride checkpoint_words_of checkpoint_told_of (behind_sized 8) a.bytes.now l.checkpoints l.at l.k a.count (omega arith)) ∙ l.invariant.1
