-- The rows of every table, as the law lists their words, are the words of the typed rows. Assumes nothing.
use mathlib.Core.Path.{◌≡◌, refl, ap, ap₂, ◌∙◌}
use mathlib.Core.List.{List, [], ◌∷◌, ◌++◌, map, map-append, map-map}
use mathlib.Core.Option.{Option, none, some}
use Prim.Native.Nat.{ℕ, ◌+◌}
use lib.ListN.{length}
use Rattle.terms.specs.Words.{perhaps}
use Rattle.line.specs.Content.{Field}
use Rattle.law.specs.Tables as Law
use Rattle.law.specs.Along as Along
use Rattle.rows.specs.Table.{flat}
use Rattle.grammar.specs.Statements.{PointId}
use Rattle.grammar.specs.Network.{Checkpoint, Zone, Network}
use Rattle.grammar.specs.Tables.{gather, along, lane_size, zone_size, the_row_of, over_spots, all_lanes, first_zone_point, the_segment_row_of, lane_row, zone_rows_from, the_spot_row_of, checkpoint_row, spot_checkpoint, exit_row, tables_with, tables}
use Rattle.table_words.specs.Words.{name_words, the_segment_words_of, the_lane_words_of, the_zone_words_of, the_spot_words_of, position_words, the_checkpoint_words_of, the_stop_words_of, the_exit_words_of}
use Rattle.fill.proofs.RowLaws.{map-along}

-- the words of all rows, one row behind the other
pub flat_rows : {R X : Type 0} (words : R → List X) (rs : List R) → flat words rs ≡ gather (λ row. row) (map words rs)
unfolding flat
flat_rows words [] = refl
flat_rows words (r ∷ rs) = ap (◌++◌ (words r)) (flat_rows words rs)

-- ## A name is its start and length
abbrev pub start_of : Field → ℕ
start_of v = v.start

abbrev pub length-of : Field → ℕ
length-of v = length v.bytes

name-same : (o : Option Field) → name_words start_of length-of o ≡ Law.name_words o
name-same none = refl
name-same (some v) = refl

abbrev law-checkpoint : ℕ → Checkpoint → List ℕ
law-checkpoint first c = c.number ∷ the_row_of first c.waypoint ∷ []

spot-checkpoint-same : (p : ℕ) (c : Option Checkpoint) → map the_checkpoint_words_of (spot_checkpoint p c) ≡ map (law-checkpoint p) (perhaps c)
spot-checkpoint-same p none = refl
spot-checkpoint-same p (some c) = refl

zones-from-same : (p q : ℕ) (l : List (Zone Field)) → map (the_zone_words_of start_of length-of) (zone_rows_from p q l) ≡ Along.zone_rows_from p q l
zones-from-same p q [] = refl
zones-from-same p q (z ∷ l) = ap₂ (λ (x : List ℕ) (y : List (List ℕ)). x ∷ y)
    (ap (λ (w : List ℕ). p ∷ length z.border.points ∷ Law.first_spot_of q (length z.spots) ∷ length z.spots ∷ w) (name-same z.name))
    (zones-from-same (p + zone_size z) (q + length z.spots) l)

module _ (n : Network Field) where
  pub segments-same : map (the_segment_words_of start_of length-of) (tables n).segments ≡ Law.segment_rows n
  unfolding tables_with
  segments-same = map-along (the_segment_words_of start_of length-of) (λ s. length s.lanes) (λ first s. the_segment_row_of first s ∷ []) (λ first s. (first ∷ length s.lanes ∷ Law.name_words s.name) ∷ [])
      (λ p s. ap (λ (w : List ℕ). (p ∷ length s.lanes ∷ w) ∷ []) (name-same s.name)) 0 n.segments

  pub lanes-same : map the_lane_words_of (tables n).lanes ≡ Law.lane_rows_of n
  unfolding tables_with
  lanes-same = map-along the_lane_words_of lane_size (λ first a. lane_row first a ∷ []) (λ first a. the_lane_words_of (lane_row first a) ∷ []) (λ p a. refl) 0 (all_lanes n)

  pub zones-same : map (the_zone_words_of start_of length-of) (tables n).zones ≡ Law.zone_rows n
  unfolding tables_with
  zones-same = zones-from-same (first_zone_point n) 0 n.zones

  pub spots-same : map the_spot_words_of (tables n).spots ≡ Law.spot_rows n
  unfolding tables_with
  spots-same = map-along the_spot_words_of zone_size (over_spots (λ first s. the_spot_row_of first s ∷ [])) (over_spots (λ first s. the_spot_words_of (the_spot_row_of first s) ∷ []))
      (λ p z. map-along the_spot_words_of (λ s. 2) (λ first s. the_spot_row_of first s ∷ []) (λ first s. the_spot_words_of (the_spot_row_of first s) ∷ []) (λ p s. refl) (p + length z.border.points) z.spots)
      (first_zone_point n) n.zones

  pub points-same : map position_words (tables n).points ≡ Law.point_rows n
  unfolding tables_with
  points-same = refl

  pub checkpoints-same : map the_checkpoint_words_of (tables n).checkpoints ≡ Law.checkpoint_rows n
  unfolding tables_with
  checkpoints-same =
      map-append the_checkpoint_words_of (along lane_size (λ first a. map (checkpoint_row first) a.checkpoints) 0 (all_lanes n)) (along zone_size (over_spots (λ first s. spot_checkpoint first s.checkpoint)) (first_zone_point n) n.zones)
      ∙ ap₂ (λ (x y : List (List ℕ)). x ++ y)
      (map-along the_checkpoint_words_of lane_size (λ first a. map (checkpoint_row first) a.checkpoints) (λ first a. map (law-checkpoint first) a.checkpoints) (λ p a. map-map the_checkpoint_words_of (checkpoint_row p) a.checkpoints) 0 (all_lanes n))
      (map-along the_checkpoint_words_of zone_size (over_spots (λ first s. spot_checkpoint first s.checkpoint)) (over_spots (λ first s. map (law-checkpoint first) (perhaps s.checkpoint)))
      (λ p z. map-along the_checkpoint_words_of (λ s. 2) (λ first s. spot_checkpoint first s.checkpoint) (λ first s. map (law-checkpoint first) (perhaps s.checkpoint)) (λ p s. spot-checkpoint-same p s.checkpoint) (p + length z.border.points) z.spots)
      (first_zone_point n) n.zones)

  pub stops_same : map the_stop_words_of (tables n).stops ≡ Law.stop_rows n
  unfolding tables_with
  stops_same = map-along the_stop_words_of lane_size (λ first a. map (the_row_of first) a.stops) (λ first a. map (λ i. the_row_of first i ∷ []) a.stops) (λ p a. map-map the_stop_words_of (the_row_of p) a.stops) 0 (all_lanes n)

  -- the exits' rows where each entry is looked up as the law does
  abbrev pub law-point : PointId → ℕ
  law-point e = the_row_of (Law.first_point_of n e.x e.y) e.z

  pub exits_as-law : map the_exit_words_of (tables_with law-point n).exits ≡ Law.exit_rows n
  unfolding tables_with
  exits_as-law =
      map-append the_exit_words_of (along lane_size (λ first a. map (exit_row law-point first) a.exits) 0 (all_lanes n)) (along zone_size (λ first z. map (exit_row law-point first) z.border.exits) (first_zone_point n) n.zones)
      ∙ ap₂ (λ (x y : List (List ℕ)). x ++ y)
      (map-along the_exit_words_of lane_size (λ first a. map (exit_row law-point first) a.exits) (λ first a. map (Law.exit_row n first) a.exits) (λ p a. map-map the_exit_words_of (exit_row law-point p) a.exits) 0 (all_lanes n))
      (map-along the_exit_words_of zone_size (λ first z. map (exit_row law-point first) z.border.exits) (λ first z. map (Law.exit_row n first) z.border.exits) (λ p z. map-map the_exit_words_of (exit_row law-point p) z.border.exits) (first_zone_point n) n.zones)
