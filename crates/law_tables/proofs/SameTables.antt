-- THE LAWS of the tables: the lent tables hold the same, and there is room for the same. Assumes nothing.
use mathlib.Core.Path.{◌≡◌, refl, sym, ap, subst, ◌∙◌}
use mathlib.Core.List.{List, ◌++◌, map}
use Prim.Native.Nat.{ℕ, ◌-◌, ◌/◌, ◌≤◌}
use lib.ListN.{length, replicate, length-map}
use lib.IntN.{pos}
use Rattle.line.specs.Content.{Field}
use Rattle.law.specs.Tables.{Lent, MissionLent}
use Rattle.law.specs.Tables as Law
use Rattle.rows.specs.Table.{table_of}
use Rattle.grammar.specs.Network.{Network}
use Rattle.grammar.specs.Mission.{Mission}
use Rattle.grammar.specs.Tables.{gather, tables, mission_tables}
use Rattle.grammar.specs.References.{Sound}
use Rattle.fill.specs.Counts.{Counts, sizes, mission_sizes}
use Rattle.table_words.specs.Words.{HasRoom, MissionHasRoom, the_segment_words_of, the_lane_words_of, the_zone_words_of, the_spot_words_of, position_words, the_checkpoint_words_of, the_stop_words_of, the_exit_words_of, the_goal_words_of, the_limit_words_of, network_filled, mission_filled}
use Rattle.law_tables.proofs.SameRows.{flat_rows, start_of, length-of, segments-same, lanes-same, zones-same, spots-same, points-same, checkpoints-same, stops_same}
use Rattle.law_tables.proofs.Entries.{exits-count, exits-same}

-- ## One table whose rows have these words
module _ {R X : Type 0} (words : R → List X) (rs : List R) (rows : List (List X)) (same : map words rs ≡ rows) where
  holds : (nought : X) (lent : List X) → table_of nought words (length lent) rs ≡ Law.holding nought rows lent
  unfolding table_of
  holds nought lent = ap (λ (x : List X). x ++ replicate (length lent - length x) nought) (flat_rows words rs ∙ ap (gather (λ row. row)) same)

  as_many : length rs ≡ length rows
  as_many = sym (length-map rs words) ∙ ap (λ (l : List (List X)). length l) same

-- ## The tables of a network
module _ (n : Network Field) where
  -- 01: "the rows used of each table", by the law's rows
  abbrev pub rows-counted : Counts
  rows-counted = record {
    segments = length (Law.segment_rows n);
    lanes = length (Law.lane_rows_of n);
    zones = length (Law.zone_rows n);
    spots = length (Law.spot_rows n);
    points = length (Law.point_rows n);
    checkpoints = length (Law.checkpoint_rows n);
    stops = length (Law.stop_rows n);
    exits = length (Law.exit_rows n);
  }

  pub counts_same : sizes (tables n) ≡ rows-counted
  counts_same =
      let t = tables n in
      let segments = as_many (the_segment_words_of start_of length-of) t.segments (Law.segment_rows n) (segments-same n) in
      let lanes = as_many the_lane_words_of t.lanes (Law.lane_rows_of n) (lanes-same n) in
      let zones = as_many (the_zone_words_of start_of length-of) t.zones (Law.zone_rows n) (zones-same n) in
      let spots = as_many the_spot_words_of t.spots (Law.spot_rows n) (spots-same n) in
      let points = as_many position_words t.points (Law.point_rows n) (points-same n) in
      let checkpoints = as_many the_checkpoint_words_of t.checkpoints (Law.checkpoint_rows n) (checkpoints-same n) in
      let stops = as_many the_stop_words_of t.stops (Law.stop_rows n) (stops_same n) in
      let exits = exits-count n in
      λ i. record { segments = segments i; lanes = lanes i; zones = zones i; spots = spots i; points = points i; checkpoints = checkpoints i; stops = stops i; exits = exits i }

  -- THE LAW: the lent tables of a network, filled
  pub filled-same : Sound n → (lent : Lent) → network_filled n lent ≡ Law.filled n lent
  filled-same s lent =
      let t = tables n in
      let segments = holds (the_segment_words_of start_of length-of) t.segments (Law.segment_rows n) (segments-same n) 0 lent.segments in
      let lanes = holds the_lane_words_of t.lanes (Law.lane_rows_of n) (lanes-same n) 0 lent.lanes in
      let zones = holds (the_zone_words_of start_of length-of) t.zones (Law.zone_rows n) (zones-same n) 0 lent.zones in
      let spots = holds the_spot_words_of t.spots (Law.spot_rows n) (spots-same n) 0 lent.spots in
      let points = holds position_words t.points (Law.point_rows n) (points-same n) (pos 0) lent.points in
      let checkpoints = holds the_checkpoint_words_of t.checkpoints (Law.checkpoint_rows n) (checkpoints-same n) 0 lent.checkpoints in
      let stops = holds the_stop_words_of t.stops (Law.stop_rows n) (stops_same n) 0 lent.stops in
      let exits = holds the_exit_words_of t.exits (Law.exit_rows n) (exits-same n s) 0 lent.exits in
      λ i. record { segments = segments i; lanes = lanes i; zones = zones i; spots = spots i; points = points i; checkpoints = checkpoints i; stops = stops i; exits = exits i }

  -- THE LAW: there is room
  counted-to : (lent : Lent) → HasRoom rows-counted lent → Law.HasRoom n lent
  counted-to lent h = record { segments = h.segments; lanes = h.lanes; zones = h.zones; spots = h.spots; points = h.points; checkpoints = h.checkpoints; stops = h.stops; exits = h.exits }

  counted_back : (lent : Lent) → Law.HasRoom n lent → HasRoom rows-counted lent
  counted_back lent h = record { segments = h.segments; lanes = h.lanes; zones = h.zones; spots = h.spots; points = h.points; checkpoints = h.checkpoints; stops = h.stops; exits = h.exits }

  pub room-to : (lent : Lent) → HasRoom (sizes (tables n)) lent → Law.HasRoom n lent
  room-to lent h = counted-to lent (subst (λ (c : Counts). HasRoom c lent) counts_same h)

  pub room_back : (lent : Lent) → Law.HasRoom n lent → HasRoom (sizes (tables n)) lent
  room_back lent h = subst (λ (c : Counts). HasRoom c lent) (sym counts_same) (counted_back lent h)

-- ## The tables of a mission
module _ (m : Mission Field) where
  pub mission-counts-same : mission_sizes (mission_tables m) ≡ record { goals = length m.goals; limits = length m.limits }
  mission-counts-same = refl

  pub mission-filled-same : (lent : MissionLent) → mission_filled (mission_tables m) lent ≡ Law.mission_filled m lent
  mission-filled-same lent =
      let goals = holds the_goal_words_of m.goals (map the_goal_words_of m.goals) refl 0 lent.goals in
      let limits = holds the_limit_words_of m.limits (map the_limit_words_of m.limits) refl 0 lent.limits in
      λ i. record { goals = goals i; limits = limits i }

  pub mission-room-to : (lent : MissionLent) → MissionHasRoom (mission_sizes (mission_tables m)) lent → Law.MissionHasRoom m lent
  mission-room-to lent h = record {
    goals = subst (λ (k : ℕ). k ≤ length lent.goals / 1) (sym (length-map m.goals the_goal_words_of)) h.goals;
    limits = subst (λ (k : ℕ). k ≤ length lent.limits / 3) (sym (length-map m.limits the_limit_words_of)) h.limits;
  }

  pub mission-room-back : (lent : MissionLent) → Law.MissionHasRoom m lent → MissionHasRoom (mission_sizes (mission_tables m)) lent
  mission-room-back lent h = record {
    goals = subst (λ (k : ℕ). k ≤ length lent.goals / 1) (length-map m.goals the_goal_words_of) h.goals;
    limits = subst (λ (k : ℕ). k ≤ length lent.limits / 3) (length-map m.limits the_limit_words_of) h.limits;
  }
