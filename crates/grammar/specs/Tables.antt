-- The tables of a network and of a mission. Document 01, "Tables": "All rows stand in file order, indexes from 0." Assumes nothing.
use Rattle.std.specs.Prelude.{List, [], ◌∷◌, ◌++◌, map, ℕ, zero, suc, pred, ◌+◌, ◌-◌, length, get_or}
use Rattle.std.proofs.Math.Option.{Option, none, some}
use Rattle.grammar.specs.Statements.{Boundary, double_yellow_of, solid_yellow_of, solid_white_of, broken_white_of, PointId, Position}
use Rattle.grammar.specs.Network.{Checkpoint, Exit, Lane, Segment, Perimeter, Spot, Zone, Network}
use Rattle.grammar.specs.MissionStatements.{Limit}
use Rattle.grammar.specs.Mission.{Mission}
pub use Rattle.law.specs.Tables.{feet, side, gather, lane_size, spot_points, the_row_of, first_spot_of, all_lanes, zone_points, zone_size, lane_points, first_zone_point}
pub use Rattle.law.specs.Along.{along, over_spots}

-- 01: "(1 to 4 in the order above)"
abbrev pub colour : Boundary → ℕ
colour b = side (some b)

-- ## Rows. N: what a name is; a missing name is none (written 0, 0 where start and length are kept)
-- 01: "File: its name, format version, creation date"
pub record FileRow (N : Type 0) : Type 0 where
  pub name : N
  pub version : Option N
  pub date : Option N

-- 01: "Segment: first lane, lanes, name"
pub record SegmentRow (N : Type 0) : Type 0 where
  pub first_lane : ℕ
  pub lanes : ℕ
  pub name : Option N

-- 01: "Lane: first point, points, width, left and right (1 to 4 in the order above)"
pub record LaneRow : Type 0 where
  pub first_point_of : ℕ
  pub points : ℕ
  pub width : ℕ
  pub left : ℕ
  pub right : ℕ

-- 01: "Zone: first perimeter point, points, first spot (0 without spots), spots, name"
pub record ZoneRow (N : Type 0) : Type 0 where
  pub first_point_of : ℕ
  pub points : ℕ
  pub first_spot_of : ℕ
  pub spots : ℕ
  pub name : Option N

-- 01: "Spot: first point, width"
pub record SpotRow : Type 0 where
  pub first_point_of : ℕ
  pub width : ℕ

-- 01: "Checkpoint: number, point"
pub record CheckpointRow : Type 0 where
  pub number : ℕ
  pub point : ℕ

-- 01: "Exit: point, point". E: how the entry is given: its point's row, or its identifier while it is not looked up
pub record ExitRow (E : Type 0) : Type 0 where
  pub point : ℕ
  pub entry : E

pub record Tables (N E : Type 0) : Type 0 where
  pub file : FileRow N
  pub segments : List (SegmentRow N)
  pub lanes : List LaneRow
  pub zones : List (ZoneRow N)
  pub spots : List SpotRow
  pub points : List Position
  pub checkpoints : List CheckpointRow
  pub stops : List ℕ
  pub exits : List (ExitRow E)

-- ## The row of a part whose points begin at row `first`
abbrev pub lane_row : ℕ → Lane → LaneRow
lane_row first a = record { first_point_of = first; points = length a.points; width = feet a.width; left = side a.left; right = side a.right }

abbrev pub the_spot_row_of : ℕ → Spot → SpotRow
the_spot_row_of first s = record { first_point_of = first; width = feet s.width }

abbrev pub checkpoint_row : ℕ → Checkpoint → CheckpointRow
checkpoint_row first c = record { number = c.number; point = the_row_of first c.waypoint }

abbrev pub spot_checkpoint : ℕ → Option Checkpoint → List CheckpointRow
spot_checkpoint first none = []
spot_checkpoint first (some c) = checkpoint_row first c ∷ []

abbrev pub exit_row : {E : Type 0} → (PointId → E) → ℕ → Exit → ExitRow E
exit_row f first e = record { point = the_row_of first e.waypoint; entry = f e.entry }

-- what stands where there is no row
abbrev pub the_no_lane_of : LaneRow
the_no_lane_of = record { first_point_of = 0; points = 0; width = 0; left = 0; right = 0 }

abbrev pub the_no_spot_of : SpotRow
the_no_spot_of = record { first_point_of = 0; width = 0 }

abbrev pub the_no_segment_of : {N : Type 0} → SegmentRow N
the_no_segment_of = record { first_lane = 0; lanes = 0; name = none }

abbrev pub the_no_zone_of : {N : Type 0} → ZoneRow N
the_no_zone_of = record { first_point_of = 0; points = 0; first_spot_of = 0; spots = 0; name = none }

module _ {N : Type 0} where
  abbrev pub the_file_row_of : Network N → FileRow N
  the_file_row_of n = record { name = n.name; version = n.version; date = n.date }

  -- ## Segments, lanes, zones, spots
  abbrev pub the_segment_row_of : ℕ → Segment N → SegmentRow N
  the_segment_row_of first s = record { first_lane = first; lanes = length s.lanes; name = s.name }

  abbrev pub segment_rows : Network N → List (SegmentRow N)
  segment_rows n = along (λ s. length s.lanes) (λ first s. the_segment_row_of first s ∷ []) 0 n.segments

  abbrev pub lane_rows_of : Network N → List LaneRow
  lane_rows_of n = along lane_size (λ first a. lane_row first a ∷ []) 0 (all_lanes n)

  abbrev pub the_zone_row_of : (point spot : ℕ) → Zone N → ZoneRow N
  the_zone_row_of point spot z = record { first_point_of = point; points = length z.border.points; first_spot_of = first_spot_of spot (length z.spots); spots = length z.spots; name = z.name }

  abbrev pub zone_rows_from : (point spot : ℕ) → List (Zone N) → List (ZoneRow N)
  zone_rows_from point spot [] = []
  zone_rows_from point spot (z ∷ l) = the_zone_row_of point spot z ∷ zone_rows_from (point + zone_size z) (spot + length z.spots) l

  abbrev pub zone_rows : Network N → List (ZoneRow N)
  zone_rows n = zone_rows_from (first_zone_point n) 0 n.zones

  -- ## All of them, with the entries as f gives them
  unfoldable pub tables_with : {E : Type 0} → (PointId → E) → Network N → Tables N E
  tables_with f n = record {
    file = the_file_row_of n;
    segments = segment_rows n;
    lanes = lane_rows_of n;
    zones = zone_rows n;
    spots = along zone_size (over_spots (λ first s. the_spot_row_of first s ∷ [])) (first_zone_point n) n.zones;
    points = lane_points n ++ gather zone_points n.zones;
    checkpoints = along lane_size (λ first a. map (checkpoint_row first) a.checkpoints) 0 (all_lanes n)
        ++ along zone_size (over_spots (λ first s. spot_checkpoint first s.checkpoint)) (first_zone_point n) n.zones;
    stops = along lane_size (λ first a. map (the_row_of first) a.stops) 0 (all_lanes n);
    exits = along lane_size (λ first a. map (exit_row f first) a.exits) 0 (all_lanes n)
        ++ along zone_size (λ first z. map (exit_row f first) z.border.exits) (first_zone_point n) n.zones;
  }

  -- the row of the point x.y.z: z of the perimeter of zone x where y is 0, z of lane y of segment x where it is not
  abbrev pub part_row_of : Network N → (x y : ℕ) → ℕ
  part_row_of n x zero = (get_or (zone_rows n) (pred (x - length n.segments)) the_no_zone_of).first_point_of
  part_row_of n x (suc y) = (get_or (lane_rows_of n) ((get_or (segment_rows n) (pred x) the_no_segment_of).first_lane + y) the_no_lane_of).first_point_of

  abbrev pub point_row_of : Network N → PointId → ℕ
  point_row_of n e = the_row_of (part_row_of n e.x e.y) e.z

  -- entries still as identifiers
  abbrev pub tables_unresolved : Network N → Tables N PointId
  tables_unresolved = tables_with (λ e. e)

  -- 01: "Exit: point, point"
  abbrev pub tables : Network N → Tables N ℕ
  tables n = tables_with (point_row_of n) n

-- ## The tables of a mission
-- 01: "in an MDF its `RNDF` name too"
pub record MissionFileRow (N : Type 0) : Type 0 where
  pub name : N
  pub rndf : N
  pub version : Option N
  pub date : Option N

-- 01: "Goal: number. Limit: id, minimum, maximum."
pub record MissionTables (N : Type 0) : Type 0 where
  pub file : MissionFileRow N
  pub goals : List ℕ
  pub limits : List Limit

abbrev pub mission_tables : {N : Type 0} → Mission N → MissionTables N
mission_tables m = record { file = record { name = m.name; rndf = m.rndf; version = m.version; date = m.date }; goals = m.goals; limits = m.limits }
