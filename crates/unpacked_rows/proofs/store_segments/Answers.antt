-- `unpacked_rows::store_segments` meets its contract. Assumes nothing.
use Rattle.rows.specs.declared.SegmentRow.{SegmentRow}
use Rattle.unpacked_rows.proofs.Storing.{stored-all, stored-again, stored-done}
use Rattle.unpacked_rows.specs.Told.{segment_told_of, behind_segment_of}
use Rattle.rows.specs.Lay.{put_row_of}
use Rattle.rows.specs.Strides.{segment_stride}
use Rattle.rows.specs.Columns.{segment_words_of}
use native.Mathlib.Omega.{arith}
use mathlib.Core.Path.{refl, sym, ap, ◌∙◌}
use Rattle.unpacked_rows.proofs.store_segments.Goals as goal

pub loop-k-init : goal.loop-k-init
loop-k-init c = (refl, stored-all segment_stride segment_words_of segment_told_of behind_segment_of c.args.bytes.now _ _ c.args.count)

pub loop-k-preserved : goal.loop-k-preserved
loop-k-preserved c =
    let l = c.loop-k in
    let a = c.args in (
      c.store_segment.auto.t ∙ l.invariant.0,
      stored-again segment_stride segment_words_of segment_told_of behind_segment_of a.bytes.now l.segments _ l.at _ l.k a.count (omega arith) (c.store_segment.ensures ∙ ap (λ (r : SegmentRow). put_row_of segment_stride l.segments l.k (segment_words_of r)) c.segment_told.ensures) c.behind_segment-at.ensures ∙ l.invariant.1,
    )

pub shape_of-segments : goal.shape_of-segments
shape_of-segments c = c.loop-k.invariant.0

pub returns : goal.returns
returns c =
    let l = c.loop-k in
    let a = c.args in
    sym (stored-done segment_stride segment_words_of segment_told_of behind_segment_of a.bytes.now l.segments l.at l.k a.count (omega arith)) ∙ l.invariant.1
