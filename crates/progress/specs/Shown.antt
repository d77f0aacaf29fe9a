-- How the program shows a state and a row of the theory: a missing name is 0, 0; widths and numbers as their constructors make them. Assumes nothing.
use Rattle.std.proofs.Math.Option.{Option, none, some}
use Rattle.std.specs.Prelude.{ℕ, suc, ◌+◌}
use Rattle.grammar.specs.Statements.{Kind, RNDF_name_of, num_segments, num_zones, format_version_of, creation_date_of, segment, num_lanes, segment_name_of, end_segment, lane, num_waypoints, lane_width_of, left_boundary_of, right_boundary_of, checkpoint, stop, exit, end_lane_of, zone, num_spots, zone_name_of, end_zone, perimeter, num_perimeterpoints, end_perimeter, spot, spot_width_of, end_spot, end_file_of, point}
use Rattle.grammar.specs.Tables as T
use Rattle.fill.specs.NetworkRows as NR
use Rattle.fill.specs.Counts.{Counts}
use Rattle.statement.specs.Meaning.{Stretch}
use Rattle.rows.specs.declared.Stretch as RS
use Rattle.rows.specs.declared.FileRow.{FileRow}
use Rattle.rows.specs.declared.SegmentRow.{SegmentRow}
use Rattle.rows.specs.declared.LaneRow.{LaneRow}
use Rattle.rows.specs.declared.ZoneRow.{ZoneRow}
use Rattle.rows.specs.declared.SpotRow.{SpotRow}
use Rattle.progress.specs.declared.Progress.{Progress}
use Rattle.progress.specs.declared.Row.{Row}
use Rattle.progress.specs.declared.Row.TheVariants as Row
use Rattle.progress.specs.After.{named, no_name_of, file_row_of, segment_row_of, lane_row, zone_row_of, spot_row_of, width_of}
use Rattle.units.specs.Made.{the_checkpoint_number_of}
use Rattle.room.specs.Room.{fitted}

-- ## Names and rows
abbrev pub shown_name : Stretch → RS.Stretch
shown_name v = named v.start v.length

abbrev pub shown_if_given : Option Stretch → RS.Stretch
shown_if_given none = no_name_of
shown_if_given (some v) = shown_name v

abbrev pub shown_file : T.FileRow Stretch → FileRow
shown_file f = file_row_of (shown_name f.name) (shown_if_given f.version) (shown_if_given f.date)

abbrev pub shown_segment : T.SegmentRow Stretch → SegmentRow
shown_segment a = segment_row_of a.first_lane a.lanes (shown_if_given a.name)

abbrev pub shown_lane : T.LaneRow → LaneRow
shown_lane a = lane_row a.first_point_of a.points (width_of a.width) a.left a.right

abbrev pub shown_zone : T.ZoneRow Stretch → ZoneRow
shown_zone a = zone_row_of a.first_point_of a.points a.first_spot_of a.spots (shown_if_given a.name)

abbrev pub shown_spot : T.SpotRow → SpotRow
shown_spot a = spot_row_of a.first_point_of (width_of a.width)

-- ## A state
-- the counts of the rows, and the points of the last part, which begin at row f and are w so far, stand beside it
abbrev pub shown : NR.State Stretch → Counts → (f w : ℕ) → Progress
shown s c f w = record {
  segments = c.segments;
  lanes = c.lanes;
  zones = c.zones;
  spots = c.spots;
  checkpoints = c.checkpoints;
  stops = c.stops;
  exits = c.exits;
  first = f;
  within = w;
  file = shown_file s.file;
  segment = shown_segment s.segment;
  lane = shown_lane s.lane;
  zone = shown_zone s.zone;
  spot = shown_spot s.spot;
}

-- where the points of the last part begin behind a statement of this kind, and how many there are
abbrev pub first_after : Kind → (f w : ℕ) → ℕ
first_after RNDF_name_of f w = f
first_after num_segments f w = f
first_after num_zones f w = f
first_after format_version_of f w = f
first_after creation_date_of f w = f
first_after segment f w = f
first_after num_lanes f w = f
first_after segment_name_of f w = f
first_after end_segment f w = f
first_after lane f w = f + w
first_after num_waypoints f w = f
first_after lane_width_of f w = f
first_after left_boundary_of f w = f
first_after right_boundary_of f w = f
first_after checkpoint f w = f
first_after stop f w = f
first_after exit f w = f
first_after end_lane_of f w = f
first_after zone f w = f
first_after num_spots f w = f
first_after zone_name_of f w = f
first_after end_zone f w = f
first_after perimeter f w = f + w
first_after num_perimeterpoints f w = f
first_after end_perimeter f w = f
first_after spot f w = f + w
first_after spot_width_of f w = f
first_after end_spot f w = f
first_after end_file_of f w = f
first_after point f w = f

abbrev pub within_after : Kind → (w : ℕ) → ℕ
within_after RNDF_name_of w = w
within_after num_segments w = w
within_after num_zones w = w
within_after format_version_of w = w
within_after creation_date_of w = w
within_after segment w = w
within_after num_lanes w = w
within_after segment_name_of w = w
within_after end_segment w = w
within_after lane w = 0
within_after num_waypoints w = w
within_after lane_width_of w = w
within_after left_boundary_of w = w
within_after right_boundary_of w = w
within_after checkpoint w = w
within_after stop w = w
within_after exit w = w
within_after end_lane_of w = w
within_after zone w = w
within_after num_spots w = w
within_after zone_name_of w = w
within_after end_zone w = w
within_after perimeter w = 0
within_after num_perimeterpoints w = w
within_after end_perimeter w = w
within_after spot w = 0
within_after spot_width_of w = w
within_after end_spot w = w
within_after end_file_of w = w
within_after point w = suc w

-- ## A row
-- an exit whose entry starts at `start`: it is looked up later
abbrev pub shown_row : ℕ → NR.Row Stretch → Row
shown_row start NR.nothing = Row.Nothing
shown_row start (NR.a_segment a) = Row.Segment (shown_segment a)
shown_row start (NR.a_lane a) = Row.Lane (shown_lane a)
shown_row start (NR.a_zone a) = Row.Zone (shown_zone a)
shown_row start (NR.a_spot a) = Row.Spot (shown_spot a)
shown_row start (NR.a_point a) = Row.Point (record { latitude = a.latitude; longitude = a.longitude })
shown_row start (NR.a_checkpoint a) = Row.Checkpoint (the_checkpoint_number_of a.number) (fitted a.point)
shown_row start (NR.a_stop n) = Row.Stop (record { point = fitted n })
shown_row start (NR.an_exit a) = Row.Exit (record { point = fitted a.point; entry = start })
