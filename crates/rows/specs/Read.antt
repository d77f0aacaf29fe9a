-- Executable: the row that is read of its words, and of a table. A word that is missing reads as 0.
-- That this undoes `Columns` is a law (proofs/Forms.antt). Assumes nothing.
use Rattle.std.specs.Prelude.{List, ℕ, min, get_or, ℤ, pos}
use Rattle.units.specs.Made.{feet, mph, checkpoint_number_of, segment_id_of}
use Rattle.rows.specs.declared.Stretch.{Stretch}
use Rattle.rows.specs.declared.SegmentRow.{SegmentRow}
use Rattle.rows.specs.declared.LaneRow.{LaneRow}
use Rattle.rows.specs.declared.ZoneRow.{ZoneRow}
use Rattle.rows.specs.declared.SpotRow.{SpotRow}
use Rattle.rows.specs.declared.PointRow.{PointRow}
use Rattle.rows.specs.declared.CheckpointRow.{CheckpointRow}
use Rattle.rows.specs.declared.StopRow.{StopRow}
use Rattle.rows.specs.declared.ExitRow.{ExitRow}
use Rattle.rows.specs.declared.GoalRow.{GoalRow}
use Rattle.rows.specs.declared.LimitRow.{LimitRow}
use Rattle.rows.specs.Lay.{row_at}
use Rattle.rows.specs.Strides.{segment_stride, lane_stride, zone_stride, spot_stride, point_stride, stop_stride, exit_stride, goal_stride, limit_stride}

-- A lent table may hold any word. One that is too large for its field reads as the field's largest number, and not as some smaller one
abbrev pub saturated : ℕ → ℕ → ℕ
saturated top n = min n top

-- word j of a row: as it is, in a field of 16 bits, in a field of 8 bits
abbrev pub whole_word : List ℕ → ℕ → ℕ
whole_word w j = get_or w j 0

abbrev pub short_word : List ℕ → ℕ → ℕ
short_word w j = saturated 65535 (get_or w j 0)

abbrev pub byte_word : List ℕ → ℕ → ℕ
byte_word w j = saturated 255 (get_or w j 0)

abbrev pub the_stretch_of : ℕ → ℕ → Stretch
the_stretch_of start len = record { start = start; length = len }

abbrev pub segment_of : List ℕ → SegmentRow
segment_of w = record { first_lane = whole_word w 0; lanes = whole_word w 1; name = the_stretch_of (whole_word w 2) (whole_word w 3) }

abbrev pub lane_of : List ℕ → LaneRow
lane_of w = record { first_point = whole_word w 0; points = whole_word w 1; width = feet (short_word w 2); left = byte_word w 3; right = byte_word w 4 }

abbrev pub the_zone_of : List ℕ → ZoneRow
the_zone_of w = record { first_point = whole_word w 0; points = whole_word w 1; first_spot = whole_word w 2; spots = whole_word w 3; name = the_stretch_of (whole_word w 4) (whole_word w 5) }

abbrev pub spot_of : List ℕ → SpotRow
spot_of w = record { first_point = whole_word w 0; width = feet (short_word w 1) }

abbrev pub point_of : List ℤ → PointRow
point_of w = record { latitude = get_or w 0 (pos 0); longitude = get_or w 1 (pos 0) }

abbrev pub checkpoint_of : List ℕ → CheckpointRow
checkpoint_of w = record { number = checkpoint_number_of (short_word w 0); point = whole_word w 1 }

abbrev pub stop_of : List ℕ → StopRow
stop_of w = record { point = whole_word w 0 }

abbrev pub exit_of : List ℕ → ExitRow
exit_of w = record { point = whole_word w 0; entry = whole_word w 1 }

abbrev pub goal_of : List ℕ → GoalRow
goal_of w = record { number = checkpoint_number_of (short_word w 0) }

abbrev pub limit_of : List ℕ → LimitRow
limit_of w = record { id = segment_id_of (short_word w 0); minimum = mph (short_word w 1); maximum = mph (short_word w 2) }

-- the row that is read of a table
abbrev pub segment_at_of : List ℕ → ℕ → SegmentRow
segment_at_of t row = segment_of (row_at segment_stride t row)

abbrev pub lane_at_of : List ℕ → ℕ → LaneRow
lane_at_of t row = lane_of (row_at lane_stride t row)

abbrev pub zone_at_of : List ℕ → ℕ → ZoneRow
zone_at_of t row = the_zone_of (row_at zone_stride t row)

abbrev pub spot_at_of : List ℕ → ℕ → SpotRow
spot_at_of t row = spot_of (row_at spot_stride t row)

abbrev pub point_at_of : List ℤ → ℕ → PointRow
point_at_of t row = point_of (row_at point_stride t row)

abbrev pub checkpoint_at_of : List ℕ → ℕ → CheckpointRow
checkpoint_at_of t row = checkpoint_of (row_at point_stride t row)

abbrev pub stop_at : List ℕ → ℕ → StopRow
stop_at t row = stop_of (row_at stop_stride t row)

abbrev pub exit_at : List ℕ → ℕ → ExitRow
exit_at t row = exit_of (row_at exit_stride t row)

abbrev pub goal_at_of : List ℕ → ℕ → GoalRow
goal_at_of t row = goal_of (row_at goal_stride t row)

abbrev pub limit_at_of : List ℕ → ℕ → LimitRow
limit_at_of t row = limit_of (row_at limit_stride t row)
