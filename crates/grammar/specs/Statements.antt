-- The statements of an RNDF: their kinds, by keyword, and what the fields behind the keyword say. Document 01, "The order of an RNDF". Assumes nothing.
use Rattle.std.specs.Prelude.{List, [], ◌∷◌, ℕ, suc, ℤ}
use Rattle.grammar.specs.Language.{Lang, S, all_of}
use Rattle.grammar.specs.Language as Language
pub use Rattle.law.specs.Network.{Boundary, double_yellow_of, solid_yellow_of, solid_white_of, broken_white_of, PointId, Position}

-- 01: "Identifiers: integers joined by dots": m.n
pub record PartId : Type 0 where
  pub m : ℕ
  pub n : ℕ

-- 01: "`checkpoint` waypoint number"
pub record CheckpointLine : Type 0 where
  pub waypoint : PointId
  pub number : ℕ

-- 01: "`exit` waypoint entry"
pub record ExitLine : Type 0 where
  pub waypoint : PointId
  pub entry : PointId

-- 01: "waypoints m.n.1, m.n.2, .. each with latitude and longitude"
pub record PointLine : Type 0 where
  pub id : PointId
  pub position : Position

-- the keywords; `point` is the line that begins with a digit and has none
pub data Kind : Type 0 where
  RNDF_name_of num_segments num_zones format_version_of creation_date_of : Kind
  segment num_lanes segment_name_of end_segment : Kind
  lane num_waypoints lane_width_of left_boundary_of right_boundary_of checkpoint stop exit end_lane_of : Kind
  zone num_spots zone_name_of end_zone : Kind
  perimeter num_perimeterpoints end_perimeter : Kind
  spot spot_width_of end_spot end_file_of point : Kind
  deriving Discrete as Kind-discrete

-- N: what a name is. Its bytes, in a network; its bytes and where they start, in a text that was read.
module _ (N : Type 0) where
  -- what the fields say; Unit where there is none
  abbrev pub Says : Kind → Type 0
  Says RNDF_name_of = N
  Says num_segments = ℕ
  Says num_zones = ℕ
  Says format_version_of = N
  Says creation_date_of = N
  Says segment = ℕ
  Says num_lanes = ℕ
  Says segment_name_of = N
  Says end_segment = Unit {0}
  Says lane = PartId
  Says num_waypoints = ℕ
  Says lane_width_of = ℕ
  Says left_boundary_of = Boundary
  Says right_boundary_of = Boundary
  Says checkpoint = CheckpointLine
  Says stop = PointId
  Says exit = ExitLine
  Says end_lane_of = Unit {0}
  Says zone = ℕ
  Says num_spots = ℕ
  Says zone_name_of = N
  Says end_zone = Unit {0}
  Says perimeter = PartId
  Says num_perimeterpoints = ℕ
  Says end_perimeter = Unit {0}
  Says spot = PartId
  Says spot_width_of = ℕ
  Says end_spot = Unit {0}
  Says end_file_of = Unit {0}
  Says point = PointLine

  abbrev pub lines : Lang
  lines = record { Kind = Kind; Pay = Says; disc = Kind-discrete }

  abbrev pub Statement : Type 0
  Statement = S lines

-- the identifiers m.n and m.n.i
abbrev pub part_id : ℕ → ℕ → PartId
part_id m n = record { m = m; n = n }

abbrev pub point_id : ℕ → ℕ → ℕ → PointId
point_id m n i = record { x = m; y = n; z = i }

module _ {N : Type 0} where
  -- a keyword and what it says: `say lane (part_id 1 2)`; `say end_lane_of tt` where it says no more
  abbrev pub say : (k : Kind) → Says N k → Statement N
  say = Language.say (lines N)

  -- what the statements of one kind say, in their order
  abbrev pub of_kind : (k : Kind) → List (Statement N) → List (Says N k)
  of_kind = all_of (lines N)

  -- nothing but statements of these kinds
  abbrev pub Only : List Kind → List (Statement N) → Type 0
  Only = Language.Only (lines N)

  -- a point's line: its identifier, latitude and longitude
  abbrev pub point_line_of : PointId → Position → Statement N
  point_line_of i p = say point (record { id = i; position = p })

  -- the lines of the points m.n.i, m.n.i+1, ..
  unfoldable pub numbered : (m n i : ℕ) → List Position → List (Statement N)
  numbered m n i [] = []
  numbered m n i (p ∷ ps) = point_line_of (point_id m n i) p ∷ numbered m n (suc i) ps
