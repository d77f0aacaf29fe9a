-- Executable: the column of a statement's kind in the table of places by statements, and the statement of the program that has a given meaning. Assumes nothing.
use Rattle.std.specs.Prelude.{ℕ}
use Rattle.grammar.specs.Statements.{Boundary, double_yellow_of, solid_yellow_of, solid_white_of, broken_white_of, PointId, Kind, Says, RNDF_name_of, num_segments, num_zones, format_version_of, creation_date_of, segment, num_lanes, segment_name_of, end_segment, lane, num_waypoints, lane_width_of, left_boundary_of, right_boundary_of, checkpoint, stop, exit, end_lane_of, zone, num_spots, zone_name_of, end_zone, perimeter, num_perimeterpoints, end_perimeter, spot, spot_width_of, end_spot, end_file_of, point}
use Rattle.grammar.specs.Statements as G
use Rattle.grammar.specs.PlaceRows.{kind_row}
use Rattle.number.specs.declared.Id.{Id}
use Rattle.statement.specs.declared.Statement.{Statement}
use Rattle.statement.specs.declared.Statement.TheVariants as st
use Rattle.statement.specs.Meaning.{Stretch, meant}

-- the column of a statement's kind
abbrev pub kind_of : Statement → ℕ
kind_of s = kind_row (meant s).kind

-- ## The way back
abbrev pub boundary_row : Boundary → ℕ
boundary_row double_yellow_of = 1
boundary_row solid_yellow_of = 2
boundary_row solid_white_of = 3
boundary_row broken_white_of = 4

abbrev pub the_id_of : PointId → Id
the_id_of i = record { x = i.x; y = i.y; z = i.z }

abbrev pub of_kind : (k : Kind) → Says Stretch k → Statement
of_kind RNDF_name_of v = st.RndfName v.start v.length
of_kind num_segments v = st.NumSegments v
of_kind num_zones v = st.NumZones v
of_kind format_version_of v = st.FormatVersion v.start v.length
of_kind creation_date_of v = st.CreationDate v.start v.length
of_kind segment v = st.Segment v
of_kind num_lanes v = st.NumLanes v
of_kind segment_name_of v = st.SegmentName v.start v.length
of_kind end_segment v = st.EndSegment
of_kind lane v = st.Lane v.m v.n
of_kind num_waypoints v = st.NumWaypoints v
of_kind lane_width_of v = st.LaneWidth v
of_kind left_boundary_of v = st.LeftBoundary (boundary_row v)
of_kind right_boundary_of v = st.RightBoundary (boundary_row v)
of_kind checkpoint v = st.Checkpoint (the_id_of v.waypoint) v.number
of_kind stop v = st.Stop (the_id_of v)
of_kind exit v = st.Exit (the_id_of v.waypoint) (the_id_of v.entry)
of_kind end_lane_of v = st.EndLane
of_kind zone v = st.Zone v
of_kind num_spots v = st.NumSpots v
of_kind zone_name_of v = st.ZoneName v.start v.length
of_kind end_zone v = st.EndZone
of_kind perimeter v = st.Perimeter v.m v.n
of_kind num_perimeterpoints v = st.NumPerimeterpoints v
of_kind end_perimeter v = st.EndPerimeter
of_kind spot v = st.Spot v.m v.n
of_kind spot_width_of v = st.SpotWidth v
of_kind end_spot v = st.EndSpot
of_kind end_file_of v = st.EndFile
of_kind point v = st.Point (the_id_of v.id) v.position.latitude v.position.longitude

abbrev pub written : G.Statement Stretch → Statement
written s = of_kind s.kind s.val
