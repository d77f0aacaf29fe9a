-- How many rows each table has, and how many the count lines of an RNDF and of an MDF declare. Document 01, "Tables". Assumes nothing.
use Rattle.std.specs.Prelude.{List, [], ◌∷◌, ℕ, ◌+◌, ◌*◌, length}
use Rattle.grammar.specs.Statements.{Statement, of_kind, num_segments, num_zones, num_lanes, num_waypoints, num_spots, num_perimeterpoints, checkpoint, stop, exit}
use Rattle.grammar.specs.MissionStatements as M
use Rattle.grammar.specs.Tables.{Tables, MissionTables}

pub record Counts : Type 0 where
  pub segments : ℕ
  pub lanes : ℕ
  pub zones : ℕ
  pub spots : ℕ
  pub points : ℕ
  pub checkpoints : ℕ
  pub stops : ℕ
  pub exits : ℕ

pub record MissionCounts : Type 0 where
  pub goals : ℕ
  pub limits : ℕ

-- 01: "the rows used of each table"
abbrev pub sizes : {N E : Type 0} → Tables N E → Counts
sizes t = record {
  segments = length t.segments;
  lanes = length t.lanes;
  zones = length t.zones;
  spots = length t.spots;
  points = length t.points;
  checkpoints = length t.checkpoints;
  stops = length t.stops;
  exits = length t.exits;
}

abbrev pub mission_sizes : {N : Type 0} → MissionTables N → MissionCounts
mission_sizes t = record { goals = length t.goals; limits = length t.limits }

-- what several count lines say together
abbrev pub together : List ℕ → ℕ
together [] = 0
together (n ∷ l) = n + together l

-- 01: "The rows of each table are as many as its count lines declare together (for points: waypoints, perimeter points and two for each spot); checkpoints, stops and exits have a row for each of their lines."
abbrev pub declared : {N : Type 0} → List (Statement N) → Counts
declared l = record {
  segments = together (of_kind num_segments l);
  lanes = together (of_kind num_lanes l);
  zones = together (of_kind num_zones l);
  spots = together (of_kind num_spots l);
  points = together (of_kind num_waypoints l) + together (of_kind num_perimeterpoints l) + 2 * together (of_kind num_spots l);
  checkpoints = length (of_kind checkpoint l);
  stops = length (of_kind stop l);
  exits = length (of_kind exit l);
}

abbrev pub mission_declared : {N : Type 0} → List (M.Statement N) → MissionCounts
mission_declared l = record { goals = together (M.of_kind M.num_checkpoints l); limits = together (M.of_kind M.num_speed_limits l) }
