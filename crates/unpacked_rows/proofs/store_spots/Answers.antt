-- `unpacked_rows::store_spots` meets its contract. Assumes nothing.
use Rattle.rows.specs.declared.SpotRow.{SpotRow}
use Rattle.unpacked_rows.proofs.Storing.{stored-all, stored-again, stored-done}
use Rattle.unpacked_rows.specs.Told.{spot_told_of, behind_sized}
use Rattle.rows.specs.Lay.{put_row_of}
use Rattle.rows.specs.Strides.{spot_stride}
use Rattle.rows.specs.Columns.{spot_words_of}
use native.Mathlib.Omega.{arith}
use mathlib.Core.Path.{refl, sym, ap, ◌∙◌}
use Rattle.unpacked_rows.proofs.store_spots.Goals as goal

pub loop-k-init : goal.loop-k-init
loop-k-init c = (refl, stored-all spot_stride spot_words_of spot_told_of (behind_sized 8) c.args.bytes.now _ _ c.args.count)

pub loop-k-preserved : goal.loop-k-preserved
loop-k-preserved c =
    let l = c.loop-k in
    let a = c.args in (
      c.store_spot.auto.t ∙ l.invariant.0,
      stored-again spot_stride spot_words_of spot_told_of (behind_sized 8) a.bytes.now l.spots _ l.at _ l.k a.count (omega arith) (c.store_spot.ensures ∙ ap (λ (r : SpotRow). put_row_of spot_stride l.spots l.k (spot_words_of r)) c.spot_told.ensures) c.behind-at.ensures ∙ l.invariant.1,
    )

pub shape_of-spots : goal.shape_of-spots
shape_of-spots c = c.loop-k.invariant.0

pub returns : goal.returns
returns c =
    let l = c.loop-k in
    let a = c.args in
    sym (stored-done spot_stride spot_words_of spot_told_of (behind_sized 8) a.bytes.now l.spots l.at l.k a.count (omega arith)) ∙ l.invariant.1
