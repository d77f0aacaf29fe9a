-- `unpacked_rows::store_stops` meets its contract. Assumes nothing.
use Rattle.rows.specs.declared.StopRow.{StopRow}
use Rattle.unpacked_rows.proofs.Storing.{stored-all, stored-again, stored-done}
use Rattle.unpacked_rows.specs.Told.{stop_told_of, behind_sized}
use Rattle.rows.specs.Lay.{put_row_of}
use Rattle.rows.specs.Strides.{stop_stride}
use Rattle.rows.specs.Columns.{stop_words_of}
use native.Mathlib.Omega.{arith}
use mathlib.Core.Path.{refl, sym, ap, ◌∙◌}
use Rattle.unpacked_rows.proofs.store_stops.Goals as goal

pub loop-k-init : goal.loop-k-init
loop-k-init c = (refl, stored-all stop_stride stop_words_of stop_told_of (behind_sized 6) c.args.bytes.now _ _ c.args.count)

pub loop-k-preserved : goal.loop-k-preserved
loop-k-preserved c =
    let l = c.loop-k in
    let a = c.args in (
      c.store_stop.auto.t ∙ l.invariant.0,
      stored-again stop_stride stop_words_of stop_told_of (behind_sized 6) a.bytes.now l.stops _ l.at _ l.k a.count (omega arith) (c.store_stop.ensures ∙ ap (λ (r : StopRow). put_row_of stop_stride l.stops l.k (stop_words_of r)) c.stop_told.ensures) c.behind-at.ensures ∙ l.invariant.1,
    )

pub shape_of-stops : goal.shape_of-stops
shape_of-stops c = c.loop-k.invariant.0

pub returns : goal.returns
returns c =
    let l = c.loop-k in
    let a = c.args in
    sym (stored-done stop_stride stop_words_of stop_told_of (behind_sized 6) a.bytes.now l.stops l.at l.k a.count (omega arith)) ∙ l.invariant.1
