-- What an RNDF says, and which statements say it. Document 01, "The order of an RNDF". Assumes nothing.
use Rattle.std.specs.Prelude.{◌≡◌, List, [], ◌∷◌, ◌++◌, map, Bool, true, false, ℕ, suc, ◌+◌, ◌≤◌, length, nat_abs}
use Rattle.std.proofs.Math.Option.{Option}
use Rattle.terms.specs.Words.{Each, perhaps, Between, InTurn}
use Rattle.grammar.specs.Editions.{Edition, march, Enough}
use Rattle.grammar.specs.Statements.{Boundary, PointId, Position, CheckpointLine, ExitLine, Statement, say, of_kind, Only, part_id, point_id, point_line_of, numbered, RNDF_name_of, num_segments, num_zones, format_version_of, creation_date_of, segment, num_lanes, segment_name_of, end_segment, lane, num_waypoints, lane_width_of, left_boundary_of, right_boundary_of, checkpoint, stop, exit, end_lane_of, zone, num_spots, zone_name_of, end_zone, perimeter, num_perimeterpoints, end_perimeter, spot, spot_width_of, end_spot, end_file_of}
pub use Rattle.law.specs.Network.{largest, Checkpoint, Exit, Lane, Segment, Spot, Perimeter, Zone, Network, OnEarth, GoodCheckpoint, GoodSpot}

-- ## What is permitted, as the places test it
pub record GoodEntry (e : PointId) : Type 0 where
  pub x : Between 1 largest e.x
  pub y : e.y ≤ largest
  pub z : Between 1 largest e.z

pub record GoodExit (w : ℕ) (e : Exit) : Type 0 where
  pub waypoint : Between 1 w e.waypoint
  pub entry : GoodEntry e.entry

pub record GoodPerimeterExit (w : ℕ) (e : Exit) : Type 0 where
  pub waypoint : Between 1 w e.waypoint
  pub x : Between 1 largest e.entry.x
  pub y : Between 1 largest e.entry.y
  pub z : Between 1 largest e.entry.z

pub record GoodLane (a : Lane) : Type 0 where
  pub count : Between 1 largest (length a.points)
  pub points : Each OnEarth a.points
  pub width : Each (λ w. w ≤ largest) (perhaps a.width)
  pub checkpoints : Each (GoodCheckpoint 1 (length a.points)) a.checkpoints
  pub stops : Each (Between 1 (length a.points)) a.stops
  pub exits : Each (GoodExit (length a.points)) a.exits

pub record GoodPerimeter (a : Perimeter) : Type 0 where
  pub count : Between 1 largest (length a.points)
  pub points : Each OnEarth a.points
  pub exits : Each (GoodPerimeterExit (length a.points)) a.exits

-- ## How a part m.n writes the points that it names
abbrev pub the_checkpoint_of : ℕ → ℕ → Checkpoint → CheckpointLine
the_checkpoint_of m n c = record { waypoint = point_id m n c.waypoint; number = c.number }

abbrev pub the_exit_of : ℕ → ℕ → Exit → ExitLine
the_exit_of m n e = record { waypoint = point_id m n e.waypoint; entry = e.entry }

-- in which edition, and with L8's rule or without
pub record Under : Type 0 where
  pub edition : Edition
  pub strict : Bool

abbrev pub under : Edition → Bool → Under
under e strict = record { edition = e; strict = strict }

-- L8: "A spot must have its checkpoint": how many it has at least, by the rule and without it
abbrev pub least : Bool → ℕ
least true = 1
least false = 0

-- ## How each part is spelled. `options`, `lanes`, ..: the statements of that part of it.
module _ {N : Type 0} where
  -- 01: "Options: `lane_width` .., `left_boundary`, `right_boundary`, ..; and, any number of times, `checkpoint` .., `stop` .., `exit` .."; "Options come in any order before the first point"; "Only `checkpoint` and `stop` in a lane, and `exit` in a lane or perimeter, may repeat there"
  pub record LaneOptions (m n : ℕ) (a : Lane) (os : List (Statement N)) : Type 0 where
    pub width : of_kind lane_width_of os ≡ perhaps a.width
    pub left : of_kind left_boundary_of os ≡ perhaps a.left
    pub right : of_kind right_boundary_of os ≡ perhaps a.right
    pub checkpoints : of_kind checkpoint os ≡ map (the_checkpoint_of m n) a.checkpoints
    pub stops : of_kind stop os ≡ map (point_id m n) a.stops
    pub exits : of_kind exit os ≡ map (the_exit_of m n) a.exits
    pub no_other : Only (lane_width_of ∷ left_boundary_of ∷ right_boundary_of ∷ checkpoint ∷ stop ∷ exit ∷ []) os

  -- 01: "Lane: `lane` m.n; `num_waypoints` > 0; options; waypoints m.n.1, m.n.2, .. each with latitude and longitude; `end_lane`"
  pub record SpellsLane (m n : ℕ) (a : Lane) (l : List (Statement N)) : Type 0 where
    pub options : List (Statement N)
    pub given : LaneOptions m n a options
    pub good : GoodLane a
    pub spelled : l ≡ say lane (part_id m n) ∷ say num_waypoints (length a.points) ∷ options ++ (numbered m n 1 a.points ++ (say end_lane_of tt ∷ []))

  -- 01: "option `segment_name`"
  pub record SegmentOptions (a : Segment N) (os : List (Statement N)) : Type 0 where
    pub name : of_kind segment_name_of os ≡ perhaps a.name
    pub no_other : Only (segment_name_of ∷ []) os

  -- 01: "Segment: `segment` id; `num_lanes` > 0; option `segment_name`; lanes 1, 2, ..; `end_segment`"
  pub record SpellsSegment (m : ℕ) (a : Segment N) (l : List (Statement N)) : Type 0 where
    pub options : List (Statement N)
    pub lanes : List (Statement N)
    pub given : SegmentOptions a options
    pub count : Between 1 largest (length a.lanes)
    pub each : InTurn (SpellsLane m) 1 a.lanes lanes
    pub spelled : l ≡ say segment m ∷ say num_lanes (length a.lanes) ∷ options ++ (lanes ++ (say end_segment tt ∷ []))

  -- 01: "any number of `exit`"
  pub record PerimeterOptions (m : ℕ) (a : Perimeter) (os : List (Statement N)) : Type 0 where
    pub exits : of_kind exit os ≡ map (the_exit_of m 0) a.exits
    pub no_other : Only (exit ∷ []) os

  -- 01: "Perimeter: `perimeter` m.0; `num_perimeterpoints` > 0; any number of `exit` ..; points m.0.1, ..; `end_perimeter`"
  pub record SpellsPerimeter (m : ℕ) (a : Perimeter) (l : List (Statement N)) : Type 0 where
    pub options : List (Statement N)
    pub given : PerimeterOptions m a options
    pub good : GoodPerimeter a
    pub spelled : l ≡ say perimeter (part_id m 0) ∷ say num_perimeterpoints (length a.points) ∷ options ++ (numbered m 0 1 a.points ++ (say end_perimeter tt ∷ []))

  -- 01: "options `spot_width` .. and one `checkpoint`"
  pub record SpotOptions (m n : ℕ) (a : Spot) (os : List (Statement N)) : Type 0 where
    pub width : of_kind spot_width_of os ≡ perhaps a.width
    pub checkpoints : of_kind checkpoint os ≡ map (the_checkpoint_of m n) (perhaps a.checkpoint)
    pub no_other : Only (spot_width_of ∷ checkpoint ∷ []) os

  -- 01: "Spot: `spot` m.n; options ..; two waypoints; `end_spot`"; with L8's rule, or without
  pub record SpellsSpotBy (by : Under) (m n : ℕ) (a : Spot) (l : List (Statement N)) : Type 0 where
    pub options : List (Statement N)
    pub given : SpotOptions m n a options
    pub good : GoodSpot a
    pub marked : least by.strict ≤ length (perhaps a.checkpoint)
    pub spelled : l ≡ say spot (part_id m n) ∷ options ++ (point_line_of (point_id m n 1) a.first ∷ point_line_of (point_id m n 2) a.second ∷ say end_spot tt ∷ [])

  -- 01: "option `zone_name`"
  pub record ZoneOptions (a : Zone N) (os : List (Statement N)) : Type 0 where
    pub name : of_kind zone_name_of os ≡ perhaps a.name
    pub no_other : Only (zone_name_of ∷ []) os

  -- 01: "Zone: `zone` id; `num_spots` ≥ 0" (L10: "9 for 0 spots" in the older edition); "option `zone_name`; the perimeter; spots 1, 2, ..; `end_zone`"
  pub record SpellsZoneBy (by : Under) (m : ℕ) (a : Zone N) (l : List (Statement N)) : Type 0 where
    pub options : List (Statement N)
    pub border : List (Statement N)
    pub spots : List (Statement N)
    pub given : ZoneOptions a options
    pub count : Enough by.edition (length a.spots)
    pub bordered : SpellsPerimeter m a.border border
    pub each : InTurn (SpellsSpotBy by m) 1 a.spots spots
    pub spelled : l ≡ say zone m ∷ say num_spots (length a.spots) ∷ options ++ (border ++ (spots ++ (say end_zone tt ∷ [])))

  -- 01: "options `format_version` and `creation_date` (names)"
  pub record FileOptions (a : Network N) (os : List (Statement N)) : Type 0 where
    pub version : of_kind format_version_of os ≡ perhaps a.version
    pub date : of_kind creation_date_of os ≡ perhaps a.date
    pub no_other : Only (format_version_of ∷ creation_date_of ∷ []) os

  -- 01: "`RNDF_name` name; `num_segments` M > 0; `num_zones` N ≥ 0, with M + N ≤ 32,768; options ..; segments 1 to M; zones M+1 to M+N; `end_file`"
  pub record SpellsNetworkBy (by : Under) (a : Network N) (l : List (Statement N)) : Type 0 where
    pub options : List (Statement N)
    pub segments : List (Statement N)
    pub zones : List (Statement N)
    pub given : FileOptions a options
    pub some-segment : 1 ≤ length a.segments
    pub count : length a.segments + length a.zones ≤ largest
    pub each_segment : InTurn SpellsSegment 1 a.segments segments
    pub each_zone : InTurn (SpellsZoneBy by) (suc (length a.segments)) a.zones zones
    pub spelled : l ≡ say RNDF_name_of a.name ∷ say num_segments (length a.segments) ∷ say num_zones (length a.zones) ∷ options ++ (segments ++ (zones ++ (say end_file_of tt ∷ [])))

  -- L8: "From now on it is a rule"; in the present edition
  abbrev pub SpellsSpot : (m n : ℕ) → Spot → List (Statement N) → Type 0
  SpellsSpot = SpellsSpotBy (under march true)

  abbrev pub SpellsZone : (m : ℕ) → Zone N → List (Statement N) → Type 0
  SpellsZone = SpellsZoneBy (under march true)

  abbrev pub SpellsNetwork : Network N → List (Statement N) → Type 0
  SpellsNetwork = SpellsNetworkBy (under march true)
