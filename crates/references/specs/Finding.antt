-- Executable: what `resolve` answers, and what it reads of the tables of segments, lanes and zones. The row itself is `fill`'s (its specs/Resolve). Assumes nothing.
use Rattle.std.specs.Prelude.{List, [], ℕ, get_or, Some, None}
use Rattle.std.proofs.Math.Option.{Option, none, some}
use Rattle.rows.specs.Read.{segment_of, lane_of, the_zone_of, segment_at_of, lane_at_of, zone_at_of}
use Rattle.rows.specs.declared.SegmentRow.{SegmentRow}
use Rattle.rows.specs.declared.LaneRow.{LaneRow}
use Rattle.rows.specs.declared.ZoneRow.{ZoneRow}
use Rattle.fill.specs.Resolve.{Look}
use Rattle.std.specs.Prelude as Rust

abbrev pub found : Rust.Option ℕ → Option ℕ
found (Some i) = some i
found None = none

-- the rows as they are read of the words of lent tables
abbrev pub look_in : (segments lanes zones : List ℕ) → Look
look_in segments lanes zones = record {
  first_lane = λ i. (segment_at_of segments i).first_lane;
  lanes = λ i. (segment_at_of segments i).lanes;
  lane_point = λ i. (lane_at_of lanes i).first_point;
  lane_points = λ i. (lane_at_of lanes i).points;
  zone_point = λ i. (zone_at_of zones i).first_point;
  zone_points = λ i. (zone_at_of zones i).points;
}

-- ## Over given rows
abbrev pub no_segment_of : SegmentRow
no_segment_of = segment_of []

abbrev pub no_lane_of : LaneRow
no_lane_of = lane_of []

abbrev pub no_zone_of : ZoneRow
no_zone_of = the_zone_of []

-- the same of the rows themselves; a row that is not there is zero
abbrev pub look_of : List SegmentRow → List LaneRow → List ZoneRow → Look
look_of segments lanes zones = record {
  first_lane = λ i. (get_or segments i no_segment_of).first_lane;
  lanes = λ i. (get_or segments i no_segment_of).lanes;
  lane_point = λ i. (get_or lanes i no_lane_of).first_point;
  lane_points = λ i. (get_or lanes i no_lane_of).points;
  zone_point = λ i. (get_or zones i no_zone_of).first_point;
  zone_points = λ i. (get_or zones i no_zone_of).points;
}
