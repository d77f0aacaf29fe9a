-- Executable: the rows of records that stand one behind the other, and what tables hold once these are stored. Assumes nothing.
use Rattle.std.specs.Prelude.{◌∷◌}
use Rattle.terms.specs.Words.{List, [], ℕ, zero, suc, ℤ, Bytes}
use Rattle.law.specs.Tables.{Lent}
use Rattle.rows.specs.Columns.{segment_words_of, lane_words_of, zone_words_of, spot_words_of, point_words_of, checkpoint_words_of, stop_words_of, exit_words_of}
use Rattle.rows.specs.Strides.{segment_stride, lane_stride, zone_stride, spot_stride, point_stride, checkpoint_stride, stop_stride, exit_stride}
use Rattle.rows.specs.Table.{put_rows}
use Rattle.counts.specs.declared.Counts.{Counts}
use Rattle.unpacked_rows.specs.declared.Places.{Places}
use Rattle.unpacked_rows.specs.Told.{segment_told_of, lane_told_of, zone_told_of, spot_told_of, point_told_of, checkpoint_told_of, stop_told_of, exit_told_of, behind_sized, behind_segment_of, behind_zone_of}

-- tell: the row of the record at a place; next: the place behind it
unfoldable pub rows_from : {R : Type 0} → (tell : Bytes → ℕ → R) (next : Bytes → ℕ → ℕ) (count : ℕ) → Bytes → (at : ℕ) → List R
rows_from tell next zero b at = []
rows_from tell next (suc k) b at = tell b at ∷ rows_from tell next k b (next b at)

-- ## Each table: so many records from this place on, stored from row 0 on
abbrev pub segments_stored : Bytes → (from count : ℕ) → List ℕ → List ℕ
segments_stored b from count t = put_rows segment_stride segment_words_of t 0 (rows_from segment_told_of behind_segment_of count b from)

abbrev pub lanes_stored : Bytes → (from count : ℕ) → List ℕ → List ℕ
lanes_stored b from count t = put_rows lane_stride lane_words_of t 0 (rows_from lane_told_of (behind_sized 12) count b from)

abbrev pub zones_stored : Bytes → (from count : ℕ) → List ℕ → List ℕ
zones_stored b from count t = put_rows zone_stride zone_words_of t 0 (rows_from zone_told_of behind_zone_of count b from)

abbrev pub spots_stored : Bytes → (from count : ℕ) → List ℕ → List ℕ
spots_stored b from count t = put_rows spot_stride spot_words_of t 0 (rows_from spot_told_of (behind_sized 8) count b from)

abbrev pub points_stored : Bytes → (from count : ℕ) → List ℤ → List ℤ
points_stored b from count t = put_rows point_stride point_words_of t 0 (rows_from point_told_of (behind_sized 10) count b from)

abbrev pub checkpoints_stored : Bytes → (from count : ℕ) → List ℕ → List ℕ
checkpoints_stored b from count t = put_rows checkpoint_stride checkpoint_words_of t 0 (rows_from checkpoint_told_of (behind_sized 8) count b from)

abbrev pub stops_stored : Bytes → (from count : ℕ) → List ℕ → List ℕ
stops_stored b from count t = put_rows stop_stride stop_words_of t 0 (rows_from stop_told_of (behind_sized 6) count b from)

abbrev pub exits_stored : Bytes → (from count : ℕ) → List ℕ → List ℕ
exits_stored b from count t = put_rows exit_stride exit_words_of t 0 (rows_from exit_told_of (behind_sized 10) count b from)

-- ## All tables
unfoldable pub tables_stored : Bytes → Counts → Places → Lent → Lent
tables_stored b c at t = record {
  segments = segments_stored b at.segments c.segments t.segments;
  lanes = lanes_stored b at.lanes c.lanes t.lanes;
  zones = zones_stored b at.zones c.zones t.zones;
  spots = spots_stored b at.spots c.spots t.spots;
  points = points_stored b at.points c.points t.points;
  checkpoints = checkpoints_stored b at.checkpoints c.checkpoints t.checkpoints;
  stops = stops_stored b at.stops c.stops t.stops;
  exits = exits_stored b at.exits c.exits t.exits;
}
