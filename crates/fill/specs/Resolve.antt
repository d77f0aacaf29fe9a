-- Executable: the row of the point that an entry names, by arithmetic on the rows of segments, lanes and zones. No table is searched.
use Rattle.std.specs.Prelude.{map, Bool, true, false, ℕ, pred, ◌+◌, ◌-◌, eqb, ltb, leb, length, get_or}
use Rattle.std.proofs.Math.Option.{Option, none, some}
use Rattle.terms.specs.Words.{pick}
use Rattle.grammar.specs.Statements.{PointId}
use Rattle.grammar.specs.Tables.{ExitRow, Tables, the_row_of, the_no_segment_of, the_no_lane_of, the_no_zone_of}

-- what is read of the rows, by their index; 0 where there is no row
pub record Look : Type 0 where
  pub first_lane : ℕ → ℕ
  pub lanes : ℕ → ℕ
  pub lane_point : ℕ → ℕ
  pub lane_points : ℕ → ℕ
  pub zone_point : ℕ → ℕ
  pub zone_points : ℕ → ℕ

abbrev pub look : {N E : Type 0} → Tables N E → Look
look t = record {
  first_lane = λ i. (get_or t.segments i the_no_segment_of).first_lane;
  lanes = λ i. (get_or t.segments i the_no_segment_of).lanes;
  lane_point = λ i. (get_or t.lanes i the_no_lane_of).first_point_of;
  lane_points = λ i. (get_or t.lanes i the_no_lane_of).points;
  zone_point = λ i. (get_or t.zones i the_no_zone_of).first_point_of;
  zone_points = λ i. (get_or t.zones i the_no_zone_of).points;
}

abbrev pub only_if : Bool → Option ℕ → Option ℕ
only_if true o = o
only_if false o = none

-- the z-th of so many points, the first being row `first`
abbrev pub in_part_of : (first count z : ℕ) → Option ℕ
in_part_of first count z = only_if (ltb 0 z) (only_if (leb z count) (some (the_row_of first z)))

-- the row of lane y of segment x
abbrev pub the_lane_at_of : Look → (x y : ℕ) → ℕ
the_lane_at_of k x y = k.first_lane (pred x) + pred y

abbrev pub waypoint_at : Look → (x y z : ℕ) → Option ℕ
waypoint_at k x y z = only_if (ltb 0 x) (only_if (leb y (k.lanes (pred x))) (in_part_of (k.lane_point (the_lane_at_of k x y)) (k.lane_points (the_lane_at_of k x y)) z))

-- zones are numbered behind the segments, of which there are m
abbrev pub border_at : ℕ → Look → (x z : ℕ) → Option ℕ
border_at m k x z = only_if (ltb m x) (in_part_of (k.zone_point (pred (x - m))) (k.zone_points (pred (x - m))) z)

-- the row of point e, if the rows say that it is declared; m: how many segments there are
unfoldable pub resolve : ℕ → Look → PointId → Option ℕ
resolve m k e = pick (eqb e.y 0) (border_at m k e.x e.z) (waypoint_at k e.x e.y e.z)

-- over tables
abbrev pub resolve_in : {N E : Type 0} → Tables N E → PointId → Option ℕ
resolve_in t e = resolve (length t.segments) (look t) e

-- an exit's row with another entry
abbrev pub with_entry : {E F : Type 0} → (E → F) → ExitRow E → ExitRow F
with_entry f a = record { point = a.point; entry = f a.entry }

abbrev pub or-zero : Option ℕ → ℕ
or-zero none = 0
or-zero (some i) = i

-- the tables with each entry's row for its identifier
unfoldable pub resolved : {N : Type 0} → Tables N PointId → Tables N ℕ
resolved t = record {
  file = t.file;
  segments = t.segments;
  lanes = t.lanes;
  zones = t.zones;
  spots = t.spots;
  points = t.points;
  checkpoints = t.checkpoints;
  stops = t.stops;
  exits = map (with_entry (λ e. or-zero (resolve_in t e))) t.exits;
}
