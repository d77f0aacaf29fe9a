-- `unpacked_rows::store_points` meets its contract. Assumes nothing.
use Rattle.rows.specs.declared.PointRow.{PointRow}
use Rattle.unpacked_rows.proofs.Storing.{stored-all, stored-again, stored-done}
use Rattle.unpacked_rows.specs.Told.{point_told_of, behind_sized}
use Rattle.rows.specs.Lay.{put_row_of}
use Rattle.rows.specs.Strides.{point_stride}
use Rattle.rows.specs.Columns.{point_words_of}
use native.Mathlib.Omega.{arith}
use mathlib.Core.Path.{refl, sym, ap, ◌∙◌}
use Rattle.unpacked_rows.proofs.store_points.Goals as goal

pub loop-k-init : goal.loop-k-init
loop-k-init c = (refl, stored-all point_stride point_words_of point_told_of (behind_sized 10) c.args.bytes.now _ _ c.args.count)

pub loop-k-preserved : goal.loop-k-preserved
loop-k-preserved c =
    let l = c.loop-k in
    let a = c.args in (
      c.store_point.auto.t ∙ l.invariant.0,
      stored-again point_stride point_words_of point_told_of (behind_sized 10) a.bytes.now l.points _ l.at _ l.k a.count (omega arith) (c.store_point.ensures ∙ ap (λ (r : PointRow). put_row_of point_stride l.points l.k (point_words_of r)) c.point_told.ensures) c.behind-at.ensures ∙ l.invariant.1,
    )

pub shape_of-points : goal.shape_of-points
shape_of-points c = c.loop-k.invariant.0

pub returns : goal.returns
returns c =
    let l = c.loop-k in
    let a = c.args in
    sym (stored-done point_stride point_words_of point_told_of (behind_sized 10) a.bytes.now l.points l.at l.k a.count (omega arith)) ∙ l.invariant.1
