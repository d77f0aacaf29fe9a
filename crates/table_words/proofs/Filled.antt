-- Lent tables that have room: rows stored one by one into cleared tables are the filled tables, which are as long as what was lent. Assumes nothing.
use mathlib.Core.Path.{◌≡◌, refl, ap}
use mathlib.Core.List.{List}
use mathlib.Core.Option.{Option, none, some}
use Prim.Native.Nat.{ℕ, suc, ◌*◌, ◌≤◌, ◌<◌}
use native.Mathlib.Nat.{mul-le-mul_right, div-mul-le_self}
use native.Mathlib.Omega.{arith}
use lib.Dec.{lit<}
use lib.ListN.{length, replicate, length-replicate}
use lib.IntN.{pos}
use Rattle.grammar.specs.Tables.{SegmentRow, ZoneRow, Tables, MissionTables}
use Rattle.fill.specs.Counts.{sizes, mission_sizes}
use Rattle.rows.specs.Lay.{rows_of}
use Rattle.rows.specs.Strides.{segment_stride, lane_stride, zone_stride, spot_stride, point_stride, checkpoint_stride, stop_stride, exit_stride, goal_stride, limit_stride}
use Rattle.rows.specs.Table.{table_of, put_rows}
use Rattle.rows.proofs.Tables.{put-rows-cleared, length-table}
use Rattle.table_words.specs.Words.{Lent, MissionLent, zeros, mission_zeros, HasRoom, MissionHasRoom, name_words, the_segment_words_of, the_lane_words_of, the_zone_words_of, the_spot_words_of, position_words, the_checkpoint_words_of, the_stop_words_of, the_exit_words_of, the_goal_words_of, the_limit_words_of, filled, mission_filled}

-- ## One table
-- whole rows fit
pub rows_fit : (c n stride : ℕ) → c ≤ rows_of n stride → c * stride ≤ n
rows_fit c n stride h =
    let a = mul-le-mul_right stride h in
    let b = div-mul-le_self n stride in
    omega arith

module _ {R X : Type 0} (stride : ℕ) (words : R → List X) (some : 0 < stride) (long : (v : R) → length (words v) ≡ stride) (nought : X) (n : ℕ) (rs : List R) (room : length rs ≤ rows_of n stride) where
  pub put_all : put_rows stride words (replicate n nought) 0 rs ≡ table_of nought words n rs
  put_all = put-rows-cleared stride words some long nought n rs (rows_fit (length rs) n stride room)

  pub all-long : length (table_of nought words n rs) ≡ n
  all-long = length-table stride words some long nought n rs (rows_fit (length rs) n stride room)

-- ## The tables of a network
-- each as long as the other
pub record SameLengths (t u : Lent) : Type 0 where
  pub segments : length t.segments ≡ length u.segments
  pub lanes : length t.lanes ≡ length u.lanes
  pub zones : length t.zones ≡ length u.zones
  pub spots : length t.spots ≡ length u.spots
  pub points : length t.points ≡ length u.points
  pub checkpoints : length t.checkpoints ≡ length u.checkpoints
  pub stops : length t.stops ≡ length u.stops
  pub exits : length t.exits ≡ length u.exits

module _ {N : Type 0} (start len : N → ℕ) where
  pub name-long : (name : Option N) → length (name_words start len name) ≡ 2
  name-long none = refl
  name-long (some name) = refl

  pub segment-long : (r : SegmentRow N) → length (the_segment_words_of start len r) ≡ segment_stride
  segment-long r = ap (λ (n : ℕ). suc (suc n)) (name-long r.name)

  pub zone-long : (r : ZoneRow N) → length (the_zone_words_of start len r) ≡ zone_stride
  zone-long r = ap (λ (n : ℕ). suc (suc (suc (suc n)))) (name-long r.name)

  -- what filling loops leave in cleared tables: rows stored one by one
  abbrev pub stored : Tables N ℕ → Lent → Lent
  stored n t = record {
    segments = put_rows segment_stride (the_segment_words_of start len) (zeros t).segments 0 n.segments;
    lanes = put_rows lane_stride the_lane_words_of (zeros t).lanes 0 n.lanes;
    zones = put_rows zone_stride (the_zone_words_of start len) (zeros t).zones 0 n.zones;
    spots = put_rows spot_stride the_spot_words_of (zeros t).spots 0 n.spots;
    points = put_rows point_stride position_words (zeros t).points 0 n.points;
    checkpoints = put_rows checkpoint_stride the_checkpoint_words_of (zeros t).checkpoints 0 n.checkpoints;
    stops = put_rows stop_stride the_stop_words_of (zeros t).stops 0 n.stops;
    exits = put_rows exit_stride the_exit_words_of (zeros t).exits 0 n.exits;
  }

  -- THE LAW: where there is room, that is the filled tables
  pub stored-filled : (n : Tables N ℕ) (t : Lent) → HasRoom (sizes n) t → stored n t ≡ filled start len n t
  stored-filled n t room =
      let segments = put_all segment_stride (the_segment_words_of start len) (lit< tt) segment-long 0 (length t.segments) n.segments room.segments in
      let lanes = put_all lane_stride the_lane_words_of (lit< tt) (λ v. refl) 0 (length t.lanes) n.lanes room.lanes in
      let zones = put_all zone_stride (the_zone_words_of start len) (lit< tt) zone-long 0 (length t.zones) n.zones room.zones in
      let spots = put_all spot_stride the_spot_words_of (lit< tt) (λ v. refl) 0 (length t.spots) n.spots room.spots in
      let points = put_all point_stride position_words (lit< tt) (λ v. refl) (pos 0) (length t.points) n.points room.points in
      let checkpoints = put_all checkpoint_stride the_checkpoint_words_of (lit< tt) (λ v. refl) 0 (length t.checkpoints) n.checkpoints room.checkpoints in
      let stops = put_all stop_stride the_stop_words_of (lit< tt) (λ v. refl) 0 (length t.stops) n.stops room.stops in
      let exits = put_all exit_stride the_exit_words_of (lit< tt) (λ v. refl) 0 (length t.exits) n.exits room.exits in
      λ i. record { segments = segments i; lanes = lanes i; zones = zones i; spots = spots i; points = points i; checkpoints = checkpoints i; stops = stops i; exits = exits i }

  -- and these are as long as what was lent
  pub filled-long : (n : Tables N ℕ) (t : Lent) → HasRoom (sizes n) t → SameLengths (filled start len n t) t
  filled-long n t room = record {
    segments = all-long segment_stride (the_segment_words_of start len) (lit< tt) segment-long 0 (length t.segments) n.segments room.segments;
    lanes = all-long lane_stride the_lane_words_of (lit< tt) (λ v. refl) 0 (length t.lanes) n.lanes room.lanes;
    zones = all-long zone_stride (the_zone_words_of start len) (lit< tt) zone-long 0 (length t.zones) n.zones room.zones;
    spots = all-long spot_stride the_spot_words_of (lit< tt) (λ v. refl) 0 (length t.spots) n.spots room.spots;
    points = all-long point_stride position_words (lit< tt) (λ v. refl) (pos 0) (length t.points) n.points room.points;
    checkpoints = all-long checkpoint_stride the_checkpoint_words_of (lit< tt) (λ v. refl) 0 (length t.checkpoints) n.checkpoints room.checkpoints;
    stops = all-long stop_stride the_stop_words_of (lit< tt) (λ v. refl) 0 (length t.stops) n.stops room.stops;
    exits = all-long exit_stride the_exit_words_of (lit< tt) (λ v. refl) 0 (length t.exits) n.exits room.exits;
  }

-- tables that were cleared are as long too
pub zeros-long : (t : Lent) → SameLengths (zeros t) t
zeros-long t = record {
  segments = length-replicate (length t.segments) 0;
  lanes = length-replicate (length t.lanes) 0;
  zones = length-replicate (length t.zones) 0;
  spots = length-replicate (length t.spots) 0;
  points = length-replicate (length t.points) (pos 0);
  checkpoints = length-replicate (length t.checkpoints) 0;
  stops = length-replicate (length t.stops) 0;
  exits = length-replicate (length t.exits) 0;
}

-- ## The tables of a mission
abbrev pub mission-stored : {N : Type 0} → MissionTables N → MissionLent → MissionLent
mission-stored m t = record {
  goals = put_rows goal_stride the_goal_words_of (mission_zeros t).goals 0 m.goals;
  limits = put_rows limit_stride the_limit_words_of (mission_zeros t).limits 0 m.limits;
}

pub mission-stored-filled : {N : Type 0} (m : MissionTables N) (t : MissionLent) → MissionHasRoom (mission_sizes m) t → mission-stored m t ≡ mission_filled m t
mission-stored-filled m t room =
    let goals = put_all goal_stride the_goal_words_of (lit< tt) (λ v. refl) 0 (length t.goals) m.goals room.goals in
    let limits = put_all limit_stride the_limit_words_of (lit< tt) (λ v. refl) 0 (length t.limits) m.limits room.limits in
    λ i. record { goals = goals i; limits = limits i }

pub record MissionSameLengths (t u : MissionLent) : Type 0 where
  pub goals : length t.goals ≡ length u.goals
  pub limits : length t.limits ≡ length u.limits

pub mission-filled-long : {N : Type 0} (m : MissionTables N) (t : MissionLent) → MissionHasRoom (mission_sizes m) t → MissionSameLengths (mission_filled m t) t
mission-filled-long m t room = record {
  goals = all-long goal_stride the_goal_words_of (lit< tt) (λ v. refl) 0 (length t.goals) m.goals room.goals;
  limits = all-long limit_stride the_limit_words_of (lit< tt) (λ v. refl) 0 (length t.limits) m.limits room.limits;
}
