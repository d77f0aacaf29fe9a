-- The program's typed rows have exactly the words of the tables. Assumes nothing.
use mathlib.Core.Path.{◌≡◌, refl, ap, ap₂, ◌∙◌}
use mathlib.Core.List.{List, [], ◌∷◌, ◌++◌, map}
use mathlib.Core.Option.{Option, none, some}
use Prim.Native.Nat.{ℕ, suc, ◌-◌}
use lib.ListN.{length, replicate}
use lib.IntN.{pos}
use Rattle.grammar.specs.Statements.{Position}
use Rattle.grammar.specs.MissionStatements.{Limit}
use Rattle.grammar.specs.Tables.{SegmentRow, LaneRow, ZoneRow, SpotRow, CheckpointRow, ExitRow, Tables, MissionTables}
use Rattle.rows.specs.Columns.{segment_words_of, lane_words_of, zone_words_of, spot_words_of, point_words_of, checkpoint_words_of, stop_words_of, exit_words_of, goal_words_of, limit_words_of}
use Rattle.rows.specs.Lay.{put_row_of}
use Rattle.rows.specs.Table.{flat, table_of, put_rows}
use Rattle.table_words.specs.Words.{Lent, MissionLent, name_words, the_segment_words_of, the_lane_words_of, the_zone_words_of, the_spot_words_of, position_words, the_checkpoint_words_of, the_stop_words_of, the_exit_words_of, the_goal_words_of, the_limit_words_of, filled, mission_filled}
use Rattle.table_words.specs.FileRows.{shown_name}
use Rattle.table_words.specs.Shown.{shown_segment, shown_lane, shown_zone, shown_spot, shown_point, shown_checkpoint, shown_stop, shown_exit, shown_goal, shown_limit}

-- ## Row by row
pub lane-shown : (r : LaneRow) → lane_words_of (shown_lane r) ≡ the_lane_words_of r
lane-shown r = refl

pub spot-shown : (r : SpotRow) → spot_words_of (shown_spot r) ≡ the_spot_words_of r
spot-shown r = refl

pub point-shown : (p : Position) → point_words_of (shown_point p) ≡ position_words p
point-shown p = refl

pub checkpoint-shown : (r : CheckpointRow) → checkpoint_words_of (shown_checkpoint r) ≡ the_checkpoint_words_of r
checkpoint-shown r = refl

pub stop-shown : (point : ℕ) → stop_words_of (shown_stop point) ≡ the_stop_words_of point
stop-shown point = refl

pub exit-shown : (r : ExitRow ℕ) → exit_words_of (shown_exit r) ≡ the_exit_words_of r
exit-shown r = refl

pub goal-shown : (number : ℕ) → goal_words_of (shown_goal number) ≡ the_goal_words_of number
goal-shown number = refl

pub limit-shown : (r : Limit) → limit_words_of (shown_limit r) ≡ the_limit_words_of r
limit-shown r = refl

module _ {N : Type 0} (start len : N → ℕ) where
  pub name-shown : (name : Option N) → ◌≡◌ {A = List ℕ} ((shown_name start len name).start ∷ (shown_name start len name).length ∷ []) (name_words start len name)
  name-shown none = refl
  name-shown (some name) = refl

  pub segment-shown : (r : SegmentRow N) → segment_words_of (shown_segment start len r) ≡ the_segment_words_of start len r
  segment-shown r = ap (λ (name : List ℕ). r.first_lane ∷ r.lanes ∷ name) (name-shown r.name)

  pub zone-shown : (r : ZoneRow N) → zone_words_of (shown_zone start len r) ≡ the_zone_words_of start len r
  zone-shown r = ap (λ (name : List ℕ). r.first_point_of ∷ r.points ∷ r.first_spot_of ∷ r.spots ∷ name) (name-shown r.name)

-- ## Table by table: where each row has the same words, so has the table
module _ {G R X : Type 0} (shown : G → R) (words : R → List X) (own : G → List X) (same : (g : G) → words (shown g) ≡ own g) where
  pub flat-shown : (gs : List G) → flat words (map shown gs) ≡ flat own gs
  unfolding flat
  flat-shown [] = refl
  flat-shown (g ∷ gs) = ap₂ (λ (x y : List X). x ++ y) (same g) (flat-shown gs)

  pub table-shown : (nought : X) (n : ℕ) (gs : List G) → table_of nought words n (map shown gs) ≡ table_of nought own n gs
  unfolding table_of
  table-shown nought n gs = ap (λ (x : List X). x ++ replicate (n - length x) nought) (flat-shown gs)

  pub put-shown : (stride : ℕ) (t : List X) (at : ℕ) (gs : List G) → put_rows stride words t at (map shown gs) ≡ put_rows stride own t at gs
  unfolding put_rows
  put-shown stride t at [] = refl
  put-shown stride t at (g ∷ gs) = ap (λ (x : List X). put_rows stride words (put_row_of stride t at x) (suc at) (map shown gs)) (same g) ∙ put-shown stride (put_row_of stride t at (own g)) (suc at) gs

-- THE LAW. Tables of typed rows that show the rows of a network, or of a mission, are its filled tables
module _ {N : Type 0} (start len : N → ℕ) where
  abbrev pub typed : Tables N ℕ → Lent → Lent
  typed n t = record {
    segments = table_of 0 segment_words_of (length t.segments) (map (shown_segment start len) n.segments);
    lanes = table_of 0 lane_words_of (length t.lanes) (map shown_lane n.lanes);
    zones = table_of 0 zone_words_of (length t.zones) (map (shown_zone start len) n.zones);
    spots = table_of 0 spot_words_of (length t.spots) (map shown_spot n.spots);
    points = table_of (pos 0) point_words_of (length t.points) (map shown_point n.points);
    checkpoints = table_of 0 checkpoint_words_of (length t.checkpoints) (map shown_checkpoint n.checkpoints);
    stops = table_of 0 stop_words_of (length t.stops) (map shown_stop n.stops);
    exits = table_of 0 exit_words_of (length t.exits) (map shown_exit n.exits);
  }

  pub tables-shown : (n : Tables N ℕ) (t : Lent) → typed n t ≡ filled start len n t
  tables-shown n t =
      let segments = table-shown (shown_segment start len) segment_words_of (the_segment_words_of start len) (segment-shown start len) 0 (length t.segments) n.segments in
      let lanes = table-shown shown_lane lane_words_of the_lane_words_of lane-shown 0 (length t.lanes) n.lanes in
      let zones = table-shown (shown_zone start len) zone_words_of (the_zone_words_of start len) (zone-shown start len) 0 (length t.zones) n.zones in
      let spots = table-shown shown_spot spot_words_of the_spot_words_of spot-shown 0 (length t.spots) n.spots in
      let points = table-shown shown_point point_words_of position_words point-shown (pos 0) (length t.points) n.points in
      let checkpoints = table-shown shown_checkpoint checkpoint_words_of the_checkpoint_words_of checkpoint-shown 0 (length t.checkpoints) n.checkpoints in
      let stops = table-shown shown_stop stop_words_of the_stop_words_of stop-shown 0 (length t.stops) n.stops in
      let exits = table-shown shown_exit exit_words_of the_exit_words_of exit-shown 0 (length t.exits) n.exits in
      λ i. record { segments = segments i; lanes = lanes i; zones = zones i; spots = spots i; points = points i; checkpoints = checkpoints i; stops = stops i; exits = exits i }

abbrev pub mission-typed : {N : Type 0} → MissionTables N → MissionLent → MissionLent
mission-typed m t = record { goals = table_of 0 goal_words_of (length t.goals) (map shown_goal m.goals); limits = table_of 0 limit_words_of (length t.limits) (map shown_limit m.limits) }

pub mission-tables-shown : {N : Type 0} (m : MissionTables N) (t : MissionLent) → mission-typed m t ≡ mission_filled m t
mission-tables-shown m t =
    let goals = table-shown shown_goal goal_words_of the_goal_words_of goal-shown 0 (length t.goals) m.goals in
    let limits = table-shown shown_limit limit_words_of the_limit_words_of limit-shown 0 (length t.limits) m.limits in
    λ i. record { goals = goals i; limits = limits i }
