-- The words of every lent table, given the tables of a network or of a mission. Document 01, "Tables". Assumes nothing.
use Rattle.std.specs.Prelude.{List, [], ◌∷◌, ℕ, ◌≤◌, length, ℤ, pos}
use Rattle.std.proofs.Math.Option.{Option, none, some}
use Rattle.grammar.specs.Statements.{Position}
use Rattle.grammar.specs.MissionStatements.{Limit}
use Rattle.grammar.specs.Network.{Network}
use Rattle.grammar.specs.Tables.{SegmentRow, LaneRow, ZoneRow, SpotRow, CheckpointRow, ExitRow, Tables, MissionTables, tables}
use Rattle.line.specs.Content.{Field}
use Rattle.fill.specs.Counts.{Counts, MissionCounts}
use Rattle.rows.specs.Lay.{rows_of}
use Rattle.rows.specs.Strides.{segment_stride, lane_stride, zone_stride, spot_stride, point_stride, checkpoint_stride, stop_stride, exit_stride, goal_stride, limit_stride}
use Rattle.rows.specs.Table.{table_of}
pub use Rattle.law.specs.Tables.{Lent, MissionLent, zeros, mission_zeros}

-- ## The words of a row without a name
-- 01: "Lane: first point, points, width, left and right"
abbrev pub the_lane_words_of : LaneRow → List ℕ
the_lane_words_of r = r.first_point_of ∷ r.points ∷ r.width ∷ r.left ∷ r.right ∷ []

-- 01: "Spot: first point, width."
abbrev pub the_spot_words_of : SpotRow → List ℕ
the_spot_words_of r = r.first_point_of ∷ r.width ∷ []

-- 01: "Point: latitude, longitude."
abbrev pub position_words : Position → List ℤ
position_words p = p.latitude ∷ p.longitude ∷ []

-- 01: "Checkpoint: number, point."
abbrev pub the_checkpoint_words_of : CheckpointRow → List ℕ
the_checkpoint_words_of r = r.number ∷ r.point ∷ []

-- 01: "Stop: point."
abbrev pub the_stop_words_of : ℕ → List ℕ
the_stop_words_of point = point ∷ []

-- 01: "Exit: point, point."
abbrev pub the_exit_words_of : ExitRow ℕ → List ℕ
the_exit_words_of r = r.point ∷ r.entry ∷ []

-- 01: "Goal: number."
abbrev pub the_goal_words_of : ℕ → List ℕ
the_goal_words_of number = number ∷ []

-- 01: "Limit: id, minimum, maximum."
abbrev pub the_limit_words_of : Limit → List ℕ
the_limit_words_of r = r.id ∷ r.minimum ∷ r.maximum ∷ []

-- 01, refusal 11: "a table has fewer rows than needed"; there is room where none has
pub record HasRoom (c : Counts) (t : Lent) : Type 0 where
  pub segments : c.segments ≤ rows_of (length t.segments) segment_stride
  pub lanes : c.lanes ≤ rows_of (length t.lanes) lane_stride
  pub zones : c.zones ≤ rows_of (length t.zones) zone_stride
  pub spots : c.spots ≤ rows_of (length t.spots) spot_stride
  pub points : c.points ≤ rows_of (length t.points) point_stride
  pub checkpoints : c.checkpoints ≤ rows_of (length t.checkpoints) checkpoint_stride
  pub stops : c.stops ≤ rows_of (length t.stops) stop_stride
  pub exits : c.exits ≤ rows_of (length t.exits) exit_stride

pub record MissionHasRoom (c : MissionCounts) (t : MissionLent) : Type 0 where
  pub goals : c.goals ≤ rows_of (length t.goals) goal_stride
  pub limits : c.limits ≤ rows_of (length t.limits) limit_stride

-- the lent tables of a mission, with its rows in them
abbrev pub mission_filled : {N : Type 0} → MissionTables N → MissionLent → MissionLent
mission_filled m t = record { goals = table_of 0 the_goal_words_of (length t.goals) m.goals; limits = table_of 0 the_limit_words_of (length t.limits) m.limits }

-- ## Names. N: what a name is; start, len: its start and length in the lent text
module _ {N : Type 0} (start len : N → ℕ) where
  -- 01: "A name is its start and length in the lent text; a missing name is 0, 0."
  abbrev pub name_words : Option N → List ℕ
  name_words none = 0 ∷ 0 ∷ []
  name_words (some name) = start name ∷ len name ∷ []

  -- 01: "Segment: first lane, lanes, name."
  abbrev pub the_segment_words_of : SegmentRow N → List ℕ
  the_segment_words_of r = r.first_lane ∷ r.lanes ∷ name_words r.name

  -- 01: "Zone: first perimeter point, points, first spot (0 without spots), spots, name."
  abbrev pub the_zone_words_of : ZoneRow N → List ℕ
  the_zone_words_of r = r.first_point_of ∷ r.points ∷ r.first_spot_of ∷ r.spots ∷ name_words r.name

  -- the lent tables of a network, with its rows in them. 01: "All rows stand in file order, indexes from 0."; "rows beyond are zero"
  abbrev pub filled : Tables N ℕ → Lent → Lent
  filled n t = record {
    segments = table_of 0 the_segment_words_of (length t.segments) n.segments;
    lanes = table_of 0 the_lane_words_of (length t.lanes) n.lanes;
    zones = table_of 0 the_zone_words_of (length t.zones) n.zones;
    spots = table_of 0 the_spot_words_of (length t.spots) n.spots;
    points = table_of (pos 0) position_words (length t.points) n.points;
    checkpoints = table_of 0 the_checkpoint_words_of (length t.checkpoints) n.checkpoints;
    stops = table_of 0 the_stop_words_of (length t.stops) n.stops;
    exits = table_of 0 the_exit_words_of (length t.exits) n.exits;
  }

-- ## Names that are known by their places in a text: start, and how many bytes
abbrev pub network_filled : Network Field → Lent → Lent
network_filled n = filled (λ name. name.start) (λ name. length name.bytes) (tables n)
