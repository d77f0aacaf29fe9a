-- `unpacked_rows::store_exits` meets its contract. Assumes nothing.
use Rattle.rows.specs.declared.ExitRow.{ExitRow}
use Rattle.unpacked_rows.proofs.Storing.{stored-all, stored-again, stored-done}
use Rattle.unpacked_rows.specs.Told.{exit_told_of, behind_sized}
use Rattle.rows.specs.Lay.{put_row_of}
use Rattle.rows.specs.Strides.{exit_stride}
use Rattle.rows.specs.Columns.{exit_words_of}
use native.Mathlib.Omega.{arith}
use mathlib.Core.Path.{refl, sym, ap, ◌∙◌}
use Rattle.unpacked_rows.proofs.store_exits.Goals as goal

pub loop-k-init : goal.loop-k-init
loop-k-init c = (refl, stored-all exit_stride exit_words_of exit_told_of (behind_sized 10) c.args.bytes.now _ _ c.args.count)

pub loop-k-preserved : goal.loop-k-preserved
loop-k-preserved c =
    let l = c.loop-k in
    let a = c.args in (
      c.store_exit.auto.t ∙ l.invariant.0,
      stored-again exit_stride exit_words_of exit_told_of (behind_sized 10) a.bytes.now l.exits _ l.at _ l.k a.count (omega arith) (c.store_exit.ensures ∙ ap (λ (r : ExitRow). put_row_of exit_stride l.exits l.k (exit_words_of r)) c.exit_told.ensures) c.behind-at.ensures ∙ l.invariant.1,
    )

pub shape_of-exits : goal.shape_of-exits
shape_of-exits c = c.loop-k.invariant.0

pub returns : goal.returns
returns c =
    let l = c.loop-k in
    let a = c.args in
    sym (stored-done exit_stride exit_words_of exit_told_of (behind_sized 10) a.bytes.now l.exits l.at l.k a.count (omega arith)) ∙ l.invariant.1
