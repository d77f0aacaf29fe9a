-- The walk over the spots of a zone, and over all zones: it passes their checkpoints' rows and puts their features. Assumes nothing.
use mathlib.Core.Path.{◌≡◌, refl, sym, ap, subst, ◌∙◌}
use mathlib.Core.List.{List, [], ◌∷◌, map, map-append}
use mathlib.Core.Option.{Option, none, some}
use Prim.Native.Nat.{ℕ, suc, ◌+◌, ◌≤◌, ◌<◌, min}
use native.Mathlib.Omega.{arith}
use lib.ListN.{length, length-append, length-map}
use lib.IntN.{ℤ}
use Rattle.terms.specs.Ascii.{Bytes}
use Rattle.terms.specs.Words.{Each, perhaps}
use Rattle.terms.proofs.Lists.{each_map}
use Rattle.rows.specs.declared.ZoneRow.{ZoneRow}
use Rattle.rows.specs.Read.{point_at_of, zone_at_of, spot_at_of}
use Rattle.filled_rows.specs.From.{From}
use Rattle.filled_rows.proofs.From.{from_parts}
use Rattle.law.specs.Network.{Checkpoint, Spot, Zone, GoodSpot}
use Rattle.law.specs.Tables.{gather, total, spot_points, zone_points, zone_size, first_spot_of}
use Rattle.law.specs.Along.{along, over_spots}
use Rattle.grammar.specs.Tables.{CheckpointRow, SpotRow, checkpoint_row, spot_checkpoint, the_spot_row_of, the_zone_row_of, zone_rows_from}
use Rattle.grammar.specs.HouseOrder.{GoodZone}
use Rattle.table_words.specs.Shown.{shown_zone, shown_spot, shown_point}
use Rattle.features.specs.Drawn.{walk, steps, part_walk, spot_walk, zone_walk}
use Rattle.map_law.specs.Map as Map
use Rattle.map_tables.specs.Passed.{Behind, Passes}
use Rattle.map_tables.proofs.Segments.{length-along}
use Rattle.map_tables.proofs.Checkpoints.{part-walked}
use Rattle.map_tables.proofs.Passing.{none_passed, both-passed}
use Rattle.map_tables.proofs.LaneCheckpoints.{own-low, along-low}

-- ## Spots
spot-own : (p : ℕ) (c : Option Checkpoint) → map (checkpoint_row p) (perhaps c) ≡ spot_checkpoint p c
spot-own p none = refl
spot-own p (some c) = refl

abbrev spot_rows : ℕ → List Spot → List SpotRow
spot_rows p ss = along (λ s. 2) (λ first s. the_spot_row_of first s ∷ []) p ss

abbrev spot_checkpoints : ℕ → Spot → List CheckpointRow
spot_checkpoints first s = spot_checkpoint first s.checkpoint

abbrev of-spots : ℕ → List Spot → List CheckpointRow
of-spots p ss = along (λ s. 2) spot_checkpoints p ss

abbrev spot-marks : (m n : ℕ) → Spot → List Bytes
spot-marks m n s = gather (Map.checkpoint_feature m n (spot_points s)) (perhaps s.checkpoint)

spots-low : (p : ℕ) (ss : List Spot) → Behind p (of-spots p ss)
spots-low p ss = along-low (λ s. 2) spot_checkpoints (λ p s. subst (Behind p) (spot-own p s.checkpoint) (own-low p (perhaps s.checkpoint))) p ss

twice : (ss : List Spot) → length (gather spot_points ss) ≡ total (λ s. 2) ss
twice [] = refl
twice (s ∷ ss) = let e = twice ss in omega arith

-- ## Zones
module _ {N : Type 0} where
  abbrev pub of-zones : ℕ → List (Zone N) → List CheckpointRow
  of-zones p zs = along zone_size (over_spots spot_checkpoints) p zs

  pub zones-low : (p : ℕ) (zs : List (Zone N)) → Behind p (of-zones p zs)
  zones-low p zs = along-low zone_size (over_spots spot_checkpoints)
      (λ p z. each_map (λ r. p + length z.border.points ≤ r.point) (λ r. p ≤ r.point) (λ r h. omega arith) (over_spots spot_checkpoints p z) (spots-low (p + length z.border.points) z.spots)) p zs

module _ (ps : List ℤ) (cps : List ℕ) (count : ℕ) (spots : List ℕ) where
  -- the spots of zone m from the j-th on, whose points begin at p
  module _ (m : ℕ) (row : ZoneRow) where
    spot_passed : (j p : ℕ) (s : Spot) → j < 32768 → GoodSpot s → spot_at_of spots (row.first_spot + j) ≡ shown_spot (the_spot_row_of p s) → From (point_at_of ps) p (map shown_point (spot_points s))
        → Passes cps count (spot_walk spots ps cps count m row j) (p + 2) (spot_checkpoint p s.checkpoint) (spot-marks m (suc j) s)
    unfolding spot_walk
    spot_passed j p s few good e points =
        let number : min (0 + j + 1) 4294967295 ≡ suc j = omega arith in
        subst (λ (r : List CheckpointRow). Passes cps count (spot_walk spots ps cps count m row j) (p + 2) r (spot-marks m (suc j) s)) (spot-own p s.checkpoint)
        (λ q next others l high. (λ i. part_walk ps cps count m (number i) (e i).first_point 2 (walk q next)) ∙ part-walked ps cps m (suc j) p (spot_points s) (omega arith) points 2 (omega arith) count (perhaps s.checkpoint) good.checkpoint q next others l high)

    spots-passed : (j p : ℕ) (ss : List Spot) → j + length ss ≤ 32768 → Each GoodSpot ss → From (spot_at_of spots) (row.first_spot + j) (map shown_spot (spot_rows p ss)) → From (point_at_of ps) p (map shown_point (gather spot_points ss))
        → Passes cps count (steps (spot_walk spots ps cps count m row) j (length ss)) (p + total (λ s. 2) ss) (of-spots p ss) (Map.numbered (suc j) (spot-marks m) ss)
    unfolding steps
    spots-passed j p [] few good rows points = none_passed cps count (p + 0)
    spots-passed j p (s ∷ ss) few good rows points =
        let here = from_parts (point_at_of ps) p (map shown_point (spot_points s)) (map shown_point (gather spot_points ss)) points in
        let next : suc (row.first_spot + j) ≡ row.first_spot + suc j = omega arith in
        let last : suc (suc j) ≡ suc j + 1 = omega arith in
        let sum : p + 2 + total (λ s. 2) ss ≡ p + (2 + total (λ s. 2) ss) = omega arith in
        let walk-rest = steps (spot_walk spots ps cps count m row) (suc j) (length ss) in
        let rest = spots-passed (suc j) (p + 2) ss (omega arith) good.1 (rw (sym next) rows.1) here.1 in
        both-passed cps count (spot_walk spots ps cps count m row j) walk-rest (p + 2) (p + (2 + total (λ s. 2) ss)) (spot_checkpoint p s.checkpoint) (of-spots (p + 2) ss) (spot-marks m (suc j) s) (Map.numbered (suc j + 1) (spot-marks m) ss)
        (spot_passed j p s (omega arith) good.0 rows.0 here.0)
        (subst (λ (k : ℕ). Passes cps count walk-rest (p + (2 + total (λ s. 2) ss)) (of-spots (p + 2) ss) (Map.numbered k (spot-marks m) ss)) last
        (subst (λ (k : ℕ). Passes cps count walk-rest k (of-spots (p + 2) ss) (Map.numbered (suc (suc j)) (spot-marks m) ss)) sum rest))
        (spots-low (p + 2) ss) (omega arith)

  -- the zones, behind so many segments, from the k-th on, whose points begin at p and whose spots' rows at `spot`
  module _ {N : Type 0} (start len : N → ℕ) (zones : List ℕ) (segments : ℕ) where
    abbrev pub zone-marks : ℕ → Zone N → List Bytes
    zone-marks m z = Map.numbered 1 (spot-marks m) z.spots

    -- 01: "first spot (0 without spots)": where there are none, none is read
    from_first : (spot p : ℕ) (ss : List Spot) → From (spot_at_of spots) spot (map shown_spot (spot_rows p ss)) → From (spot_at_of spots) (first_spot_of spot (length ss) + 0) (map shown_spot (spot_rows p ss))
    from_first spot p [] h = tt
    from_first spot p (s ∷ ss) h = let e : spot + 0 ≡ spot = omega arith in rw e h

    zone-long : (z : Zone N) → zone_size z ≡ length z.border.points + total (λ s. 2) z.spots
    zone-long z = length-append z.border.points (gather spot_points z.spots) ∙ ap (λ (k : ℕ). length z.border.points + k) (twice z.spots)

    zone-passed : (k p spot : ℕ) (z : Zone N) → segments + k < 32768 → GoodZone z → zone_at_of zones k ≡ shown_zone start len (the_zone_row_of p spot z)
        → From (spot_at_of spots) spot (map shown_spot (spot_rows (p + length z.border.points) z.spots)) → From (point_at_of ps) p (map shown_point (zone_points z))
        → Passes cps count (zone_walk zones spots ps cps count segments k) (p + zone_size z) (over_spots spot_checkpoints p z) (zone-marks (suc (segments + k)) z)
    unfolding zone_walk
    zone-passed k p spot z few good e spot-side point-side =
        let number : min (segments + k + 1) 4294967295 ≡ suc (segments + k) = omega arith in
        let border = z.border.points in
        let t = zone-long z in
        let c = good.count in
        let end : p + length border + total (λ s. 2) z.spots ≡ p + zone_size z = omega arith in
        let here = from_parts (point_at_of ps) p (map shown_point border) (map shown_point (gather spot_points z.spots)) (rw (sym (map-append shown_point border (gather spot_points z.spots))) point-side) in
        let all = spots-passed (suc (segments + k)) (shown_zone start len (the_zone_row_of p spot z)) 0 (p + length border) z.spots (omega arith) good.spots (from_first spot (p + length border) z.spots spot-side) (rw (sym (length-map border shown_point)) here.1) in
        subst (λ (j : ℕ). Passes cps count (zone_walk zones spots ps cps count segments k) j (over_spots spot_checkpoints p z) (zone-marks (suc (segments + k)) z)) end
        (λ q next others l high. (λ i. steps (spot_walk spots ps cps count (number i) (e i)) 0 (e i).spots (walk q next)) ∙ all q next others l high)

    pub zones-passed : (k p spot : ℕ) (zs : List (Zone N)) → segments + (k + length zs) ≤ 32768 → Each GoodZone zs
        → From (zone_at_of zones) k (map (shown_zone start len) (zone_rows_from p spot zs))
        → From (spot_at_of spots) spot (map shown_spot (along zone_size (over_spots (λ first s. the_spot_row_of first s ∷ [])) p zs))
        → From (point_at_of ps) p (map shown_point (gather zone_points zs))
        → Passes cps count (steps (zone_walk zones spots ps cps count segments) k (length zs)) (p + total zone_size zs) (of-zones p zs) (Map.numbered (suc (segments + k)) zone-marks zs)
    unfolding steps
    zones-passed k p spot [] few good rows spot-side point-side = none_passed cps count (p + 0)
    zones-passed k p spot (z ∷ zs) few good rows spot-side point-side =
        let own = spot_rows (p + length z.border.points) z.spots in
        let others = along zone_size (over_spots (λ first s. the_spot_row_of first s ∷ [])) (p + zone_size z) zs in
        let l = from_parts (spot_at_of spots) spot (map shown_spot own) (map shown_spot others) (rw (sym (map-append shown_spot own others)) spot-side) in
        let q = from_parts (point_at_of ps) p (map shown_point (zone_points z)) (map shown_point (gather zone_points zs)) (rw (sym (map-append shown_point (zone_points z) (gather zone_points zs))) point-side) in
        let many : length (map shown_spot own) ≡ length z.spots = length-map own shown_spot ∙ length-along (λ s. 2) the_spot_row_of (p + length z.border.points) z.spots in
        let long : length (map shown_point (zone_points z)) ≡ zone_size z = length-map (zone_points z) shown_point in
        let last : suc (segments + suc k) ≡ suc (segments + k) + 1 = omega arith in
        let sum : p + zone_size z + total zone_size zs ≡ p + (zone_size z + total zone_size zs) = omega arith in
        let walk-rest = steps (zone_walk zones spots ps cps count segments) (suc k) (length zs) in
        let rest = zones-passed (suc k) (p + zone_size z) (spot + length z.spots) zs (omega arith) good.1 rows.1 (rw (sym many) l.1) (rw (sym long) q.1) in
        both-passed cps count (zone_walk zones spots ps cps count segments k) walk-rest (p + zone_size z) (p + (zone_size z + total zone_size zs)) (over_spots spot_checkpoints p z) (of-zones (p + zone_size z) zs)
        (zone-marks (suc (segments + k)) z) (Map.numbered (suc (segments + k) + 1) zone-marks zs)
        (zone-passed k p spot z (omega arith) good.0 rows.0 l.0 q.0)
        (subst (λ (j : ℕ). Passes cps count walk-rest (p + (zone_size z + total zone_size zs)) (of-zones (p + zone_size z) zs) (Map.numbered j zone-marks zs)) last
        (subst (λ (j : ℕ). Passes cps count walk-rest j (of-zones (p + zone_size z) zs) (Map.numbered (suc (segments + suc k)) zone-marks zs)) sum rest))
        (zones-low (p + zone_size z) zs) (omega arith)
