-- `unpacked_rows::store_lanes` meets its contract. Assumes nothing.
use Rattle.rows.specs.declared.LaneRow.{LaneRow}
use Rattle.unpacked_rows.proofs.Storing.{stored-all, stored-again, stored-done}
use Rattle.unpacked_rows.specs.Told.{lane_told_of, behind_sized}
use Rattle.rows.specs.Lay.{put_row_of}
use Rattle.rows.specs.Strides.{lane_stride}
use Rattle.rows.specs.Columns.{lane_words_of}
use native.Mathlib.Omega.{arith}
use mathlib.Core.Path.{refl, sym, ap, ◌∙◌}
use Rattle.unpacked_rows.proofs.store_lanes.Goals as goal

pub loop-k-init : goal.loop-k-init
loop-k-init c = (refl, stored-all lane_stride lane_words_of lane_told_of (behind_sized 12) c.args.bytes.now _ _ c.args.count)

pub loop-k-preserved : goal.loop-k-preserved
loop-k-preserved c =
    let l = c.loop-k in
    let a = c.args in (
      c.store_lane.auto.t ∙ l.invariant.0,
      stored-again lane_stride lane_words_of lane_told_of (behind_sized 12) a.bytes.now l.lanes _ l.at _ l.k a.count (omega arith) (c.store_lane.ensures ∙ ap (λ (r : LaneRow). put_row_of lane_stride l.lanes l.k (lane_words_of r)) c.lane_told.ensures) c.behind-at.ensures ∙ l.invariant.1,
    )

pub shape_of-lanes : goal.shape_of-lanes
shape_of-lanes c = c.loop-k.invariant.0

pub returns : goal.returns
returns c =
    let l = c.loop-k in
    let a = c.args in
    sym (stored-done lane_stride lane_words_of lane_told_of (behind_sized 12) a.bytes.now l.lanes l.at l.k a.count (omega arith)) ∙ l.invariant.1
