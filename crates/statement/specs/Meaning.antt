-- What a statement of the program means, as a statement of the grammar. Assumes nothing.
use Rattle.std.specs.Prelude.{ℕ, eqb}
use Rattle.terms.specs.Words.{pick}
use Rattle.grammar.specs.Statements.{Boundary, double_yellow_of, solid_yellow_of, solid_white_of, broken_white_of, PointId, part_id, point_id, say, RNDF_name_of, num_segments, num_zones, format_version_of, creation_date_of, segment, num_lanes, segment_name_of, end_segment, lane, num_waypoints, lane_width_of, left_boundary_of, right_boundary_of, checkpoint, stop, exit, end_lane_of, zone, num_spots, zone_name_of, end_zone, perimeter, num_perimeterpoints, end_perimeter, spot, spot_width_of, end_spot, end_file_of, point}
use Rattle.grammar.specs.Statements as G
use Rattle.number.specs.declared.Id.{Id}
use Rattle.statement.specs.declared.Statement.{Statement}
use Rattle.statement.specs.declared.Statement.TheVariants as st

-- 01: "A name is its start and length in the lent text"
pub record Stretch : Type 0 where
  pub start : ℕ
  pub length : ℕ

abbrev pub stretch : ℕ → ℕ → Stretch
stretch a l = record { start = a; length = l }

-- 01: "left and right (1 to 4 in the order above)": `double_yellow`, `solid_yellow`, `solid_white`, `broken_white`. No other number is ever read; it is taken for the last.
unfoldable pub boundary : ℕ → Boundary
boundary n = pick (eqb n 1) double_yellow_of (pick (eqb n 2) solid_yellow_of (pick (eqb n 3) solid_white_of broken_white_of))

abbrev pub the_the_point_of : Id → PointId
the_the_point_of i = point_id i.x i.y i.z

-- each kind by its keyword; numbers as they are, whatever their size
abbrev pub meant : Statement → G.Statement Stretch
meant (st.RndfName a l) = say RNDF_name_of (stretch a l)
meant (st.NumSegments n) = say num_segments n
meant (st.NumZones n) = say num_zones n
meant (st.FormatVersion a l) = say format_version_of (stretch a l)
meant (st.CreationDate a l) = say creation_date_of (stretch a l)
meant (st.Segment n) = say segment n
meant (st.NumLanes n) = say num_lanes n
meant (st.SegmentName a l) = say segment_name_of (stretch a l)
meant st.EndSegment = say end_segment tt
meant (st.Lane m n) = say lane (part_id m n)
meant (st.NumWaypoints n) = say num_waypoints n
meant (st.LaneWidth n) = say lane_width_of n
meant (st.LeftBoundary b) = say left_boundary_of (boundary b)
meant (st.RightBoundary b) = say right_boundary_of (boundary b)
meant (st.Checkpoint i n) = say checkpoint (record { waypoint = the_the_point_of i; number = n })
meant (st.Stop i) = say stop (the_the_point_of i)
meant (st.Exit i e) = say exit (record { waypoint = the_the_point_of i; entry = the_the_point_of e })
meant st.EndLane = say end_lane_of tt
meant (st.Zone n) = say zone n
meant (st.NumSpots n) = say num_spots n
meant (st.ZoneName a l) = say zone_name_of (stretch a l)
meant st.EndZone = say end_zone tt
meant (st.Perimeter m n) = say perimeter (part_id m n)
meant (st.NumPerimeterpoints n) = say num_perimeterpoints n
meant st.EndPerimeter = say end_perimeter tt
meant (st.Spot m n) = say spot (part_id m n)
meant (st.SpotWidth n) = say spot_width_of n
meant st.EndSpot = say end_spot tt
meant st.EndFile = say end_file_of tt
meant (st.Point i a o) = say point (record { id = the_the_point_of i; position = record { latitude = a; longitude = o } })
