-- Executable: the rows that the statements of an RNDF give. A part's row comes out at its end word; a checkpoint, a stop, an exit and a point have their row at once.
use Rattle.std.specs.Prelude.{List, [], ◌∷◌, ◌++◌, ℕ, suc}
use Rattle.std.proofs.Math.Option.{none, some}
use Rattle.grammar.specs.Statements.{Kind, Says, Statement, lines, PointId, Position, RNDF_name_of, num_segments, num_zones, format_version_of, creation_date_of, segment, num_lanes, segment_name_of, end_segment, lane, num_waypoints, lane_width_of, left_boundary_of, right_boundary_of, checkpoint, stop, exit, end_lane_of, zone, num_spots, zone_name_of, end_zone, perimeter, num_perimeterpoints, end_perimeter, spot, spot_width_of, end_spot, end_file_of, point}
use Rattle.grammar.specs.Tables.{FileRow, SegmentRow, LaneRow, ZoneRow, SpotRow, CheckpointRow, ExitRow, Tables, colour, the_row_of, first_spot_of, the_no_segment_of, the_no_lane_of, the_no_zone_of, the_no_spot_of}
use Rattle.fill.specs.Filling.{Filling}
use Rattle.fill.specs.Filling as Filling

-- how many rows there are so far of the tables that rows point to, and the rows of the parts that are open: of the file, and of a segment, lane, zone and spot
pub record State (N : Type 0) : Type 0 where
  pub lanes : ℕ
  pub spots : ℕ
  pub points : ℕ
  pub file : FileRow N
  pub segment : SegmentRow N
  pub lane : LaneRow
  pub zone : ZoneRow N
  pub spot : SpotRow

-- what one statement gives: nothing, or one row of one table. Entries are still identifiers: later segments are legal targets
pub data Row (N : Type 0) : Type 0 where
  nothing : Row N
  a_segment : SegmentRow N → Row N
  a_lane : LaneRow → Row N
  a_zone : ZoneRow N → Row N
  a_spot : SpotRow → Row N
  a_point : Position → Row N
  a_checkpoint : CheckpointRow → Row N
  a_stop : ℕ → Row N
  an_exit : ExitRow PointId → Row N

-- the tables but for the file's own row
pub record Rows (N : Type 0) : Type 0 where
  pub segments : List (SegmentRow N)
  pub lanes : List LaneRow
  pub zones : List (ZoneRow N)
  pub spots : List SpotRow
  pub points : List Position
  pub checkpoints : List CheckpointRow
  pub stops : List ℕ
  pub exits : List (ExitRow PointId)

-- 01: "A missing width is 65,535, since 0 is a lane width."
abbrev pub missing_width : ℕ
missing_width = 65535

module _ {N : Type 0} where
  abbrev pub state : (lanes spots points : ℕ) → FileRow N → SegmentRow N → LaneRow → ZoneRow N → SpotRow → State N
  state lanes spots points f sg ln zn sp = record { lanes = lanes; spots = spots; points = points; file = f; segment = sg; lane = ln; zone = zn; spot = sp }

  abbrev pub file_named_of : N → FileRow N
  file_named_of name = record { name = name; version = none; date = none }

  -- before the first statement; blank: what stands for the file's name until it is given
  abbrev pub start : N → State N
  start blank = state 0 0 0 (file_named_of blank) the_no_segment_of the_no_lane_of the_no_zone_of the_no_spot_of

  -- the same with another row of an open part
  abbrev pub with_file : FileRow N → State N → State N
  with_file f s = state s.lanes s.spots s.points f s.segment s.lane s.zone s.spot

  abbrev pub with_segment : SegmentRow N → State N → State N
  with_segment a s = state s.lanes s.spots s.points s.file a s.lane s.zone s.spot

  abbrev pub with_lane : LaneRow → State N → State N
  with_lane a s = state s.lanes s.spots s.points s.file s.segment a s.zone s.spot

  abbrev pub with_zone : ZoneRow N → State N → State N
  with_zone a s = state s.lanes s.spots s.points s.file s.segment s.lane a s.spot

  abbrev pub with_spot : SpotRow → State N → State N
  with_spot a s = state s.lanes s.spots s.points s.file s.segment s.lane s.zone a

  -- the state behind a statement
  abbrev pub next : (k : Kind) → Says N k → State N → State N
  next RNDF_name_of v s = with_file (record { name = v; version = s.file.version; date = s.file.date }) s
  next num_segments v s = s
  next num_zones v s = s
  next format_version_of v s = with_file (record { name = s.file.name; version = some v; date = s.file.date }) s
  next creation_date_of v s = with_file (record { name = s.file.name; version = s.file.version; date = some v }) s
  next segment v s = with_segment (record { first_lane = s.lanes; lanes = 0; name = none }) s
  next num_lanes v s = with_segment (record { first_lane = s.segment.first_lane; lanes = v; name = s.segment.name }) s
  next segment_name_of v s = with_segment (record { first_lane = s.segment.first_lane; lanes = s.segment.lanes; name = some v }) s
  next end_segment v s = with_segment the_no_segment_of s
  next lane v s = with_lane (record { first_point_of = s.points; points = 0; width = missing_width; left = 0; right = 0 }) s
  next num_waypoints v s = with_lane (record { first_point_of = s.lane.first_point_of; points = v; width = s.lane.width; left = s.lane.left; right = s.lane.right }) s
  next lane_width_of v s = with_lane (record { first_point_of = s.lane.first_point_of; points = s.lane.points; width = v; left = s.lane.left; right = s.lane.right }) s
  next left_boundary_of v s = with_lane (record { first_point_of = s.lane.first_point_of; points = s.lane.points; width = s.lane.width; left = colour v; right = s.lane.right }) s
  next right_boundary_of v s = with_lane (record { first_point_of = s.lane.first_point_of; points = s.lane.points; width = s.lane.width; left = s.lane.left; right = colour v }) s
  next checkpoint v s = s
  next stop v s = s
  next exit v s = s
  next end_lane_of v s = state (suc s.lanes) s.spots s.points s.file s.segment the_no_lane_of s.zone s.spot
  next zone v s = with_zone (record { first_point_of = s.points; points = 0; first_spot_of = 0; spots = 0; name = none }) s
  next num_spots v s = with_zone (record { first_point_of = s.zone.first_point_of; points = s.zone.points; first_spot_of = first_spot_of s.spots v; spots = v; name = s.zone.name }) s
  next zone_name_of v s = with_zone (record { first_point_of = s.zone.first_point_of; points = s.zone.points; first_spot_of = s.zone.first_spot_of; spots = s.zone.spots; name = some v }) s
  next end_zone v s = with_zone the_no_zone_of s
  next perimeter v s = s
  next num_perimeterpoints v s = with_zone (record { first_point_of = s.zone.first_point_of; points = v; first_spot_of = s.zone.first_spot_of; spots = s.zone.spots; name = s.zone.name }) s
  next end_perimeter v s = s
  next spot v s = with_spot (record { first_point_of = s.points; width = missing_width }) s
  next spot_width_of v s = with_spot (record { first_point_of = s.spot.first_point_of; width = v }) s
  next end_spot v s = state s.lanes (suc s.spots) s.points s.file s.segment s.lane s.zone the_no_spot_of
  next end_file_of v s = s
  next point v s = state s.lanes s.spots (suc s.points) s.file s.segment s.lane s.zone s.spot

  -- the row of a statement. Options come before the points of their part, so its first point is the next row of the points
  abbrev pub gives : (k : Kind) → Says N k → State N → Row N
  gives RNDF_name_of v s = nothing
  gives num_segments v s = nothing
  gives num_zones v s = nothing
  gives format_version_of v s = nothing
  gives creation_date_of v s = nothing
  gives segment v s = nothing
  gives num_lanes v s = nothing
  gives segment_name_of v s = nothing
  gives end_segment v s = a_segment s.segment
  gives lane v s = nothing
  gives num_waypoints v s = nothing
  gives lane_width_of v s = nothing
  gives left_boundary_of v s = nothing
  gives right_boundary_of v s = nothing
  gives checkpoint v s = a_checkpoint (record { number = v.number; point = the_row_of s.points v.waypoint.z })
  gives stop v s = a_stop (the_row_of s.points v.z)
  gives exit v s = an_exit (record { point = the_row_of s.points v.waypoint.z; entry = v.entry })
  gives end_lane_of v s = a_lane s.lane
  gives zone v s = nothing
  gives num_spots v s = nothing
  gives zone_name_of v s = nothing
  gives end_zone v s = a_zone s.zone
  gives perimeter v s = nothing
  gives num_perimeterpoints v s = nothing
  gives end_perimeter v s = nothing
  gives spot v s = nothing
  gives spot_width_of v s = nothing
  gives end_spot v s = a_spot s.spot
  gives end_file_of v s = nothing
  gives point v s = a_point v.position

  abbrev pub no_rows : Rows N
  no_rows = record { segments = []; lanes = []; zones = []; spots = []; points = []; checkpoints = []; stops = []; exits = [] }

  -- one row alone
  abbrev pub in_tables : Row N → Rows N
  in_tables nothing = no_rows
  in_tables (a_segment a) = record { segments = a ∷ []; lanes = []; zones = []; spots = []; points = []; checkpoints = []; stops = []; exits = [] }
  in_tables (a_lane a) = record { segments = []; lanes = a ∷ []; zones = []; spots = []; points = []; checkpoints = []; stops = []; exits = [] }
  in_tables (a_zone a) = record { segments = []; lanes = []; zones = a ∷ []; spots = []; points = []; checkpoints = []; stops = []; exits = [] }
  in_tables (a_spot a) = record { segments = []; lanes = []; zones = []; spots = a ∷ []; points = []; checkpoints = []; stops = []; exits = [] }
  in_tables (a_point a) = record { segments = []; lanes = []; zones = []; spots = []; points = a ∷ []; checkpoints = []; stops = []; exits = [] }
  in_tables (a_checkpoint a) = record { segments = []; lanes = []; zones = []; spots = []; points = []; checkpoints = a ∷ []; stops = []; exits = [] }
  in_tables (a_stop a) = record { segments = []; lanes = []; zones = []; spots = []; points = []; checkpoints = []; stops = a ∷ []; exits = [] }
  in_tables (an_exit a) = record { segments = []; lanes = []; zones = []; spots = []; points = []; checkpoints = []; stops = []; exits = a ∷ [] }

  -- rows behind rows, table by table
  infixl 6 ◌⊕◌
  abbrev pub ◌⊕◌ : Rows N → Rows N → Rows N
  a ⊕ b = record {
    segments = a.segments ++ b.segments;
    lanes = a.lanes ++ b.lanes;
    zones = a.zones ++ b.zones;
    spots = a.spots ++ b.spots;
    points = a.points ++ b.points;
    checkpoints = a.checkpoints ++ b.checkpoints;
    stops = a.stops ++ b.stops;
    exits = a.exits ++ b.exits;
  }

  abbrev pub network_filling : Filling (lines N)
  network_filling = record { State = State N; Rows = Rows N; no_rows = no_rows; join = ◌⊕◌; next = next; gives = λ k v s. in_tables (gives k v s) }

  -- the state behind statements, and their rows
  abbrev pub ends : List (Statement N) → State N → State N
  ends = Filling.ends network_filling

  abbrev pub rows : List (Statement N) → State N → Rows N
  rows = Filling.rows network_filling

  -- the tables: the file's row is the one that is left
  abbrev pub tabled : FileRow N → Rows N → Tables N PointId
  tabled f o = record { file = f; segments = o.segments; lanes = o.lanes; zones = o.zones; spots = o.spots; points = o.points; checkpoints = o.checkpoints; stops = o.stops; exits = o.exits }

  unfoldable pub fill : N → List (Statement N) → Tables N PointId
  fill blank l = tabled (ends l (start blank)).file (rows l (start blank))
