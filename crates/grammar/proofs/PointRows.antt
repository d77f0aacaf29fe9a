-- The row of a declared point: it is a row of the table, and it tells the point. Assumes nothing.
use mathlib.Core.Path.{◌≡◌, refl, sym, ap, ◌∙◌}
use mathlib.Core.List.{List, ◌∷◌, map}
use Prim.Native.Nat.{ℕ, pred, ◌+◌, ◌-◌, ◌<◌}
use native.Mathlib.Omega.{arith}
use lib.ListN.{length, get_or, length-append, length-map}
use Rattle.terms.specs.Words.{Between}
use Rattle.grammar.specs.Statements.{PointId}
use Rattle.grammar.specs.Network.{Lane, Segment, Zone, Network}
use Rattle.grammar.specs.Tables.{LaneRow, SegmentRow, the_no_lane_of, the_no_segment_of, the_no_zone_of, gather, lane_size, lane_row, the_segment_row_of, zone_size, zone_points, spot_points, zone_rows_from, all_lanes, lane_points, lane_rows_of, segment_rows, first_zone_point, part_row_of, point_row_of, tables_with, tables}
use Rattle.grammar.specs.References.{Nth, first, later, Declared, waypoint, border}
use Rattle.grammar.proofs.Rows.{total-same, length-gather}
use Rattle.grammar.proofs.NthRows.{before, before-within, one_up, nth_le, nth-along, nth-gather, same_place}

module _ {N : Type 0} where
  -- how many lanes a segment has
  abbrev pub lanes_in : Segment N → ℕ
  lanes_in s = length s.lanes

  -- the same segments, lanes and zones by their sizes
  pub record SameFrame (n n' : Network N) : Type 0 where
    pub segments : map lanes_in n.segments ≡ map lanes_in n'.segments
    pub lanes : map lane_size (all_lanes n) ≡ map lane_size (all_lanes n')
    pub zones : map zone_size n.zones ≡ map zone_size n'.zones

  -- ## Where the points of a lane and of a zone begin
  lane-there : (n : Network N) (x y : ℕ) (s : Segment N) (a : Lane) (i : Nth x s n.segments) (j : Nth y a s.lanes) → part_row_of n x y ≡ before lane_size (nth-gather (λ s. s.lanes) i j)
  lane-there n x y s a i j =
      let lane : Nth (before lanes_in i + y) a (all_lanes n) = nth-gather (λ s. s.lanes) i j in
      let f : (get_or (segment_rows n) (pred x) the_no_segment_of).first_lane ≡ 0 + before lanes_in i = ap (λ (r : SegmentRow N). r.first_lane) (nth-along lanes_in the_segment_row_of the_no_segment_of 0 i) in
      let u = one_up j in let v = one_up lane in
      let w : (get_or (segment_rows n) (pred x) the_no_segment_of).first_lane + pred y ≡ pred (before lanes_in i + y) = omega arith in
      let z : 0 + before lane_size lane ≡ before lane_size lane = omega arith in
      ap (part_row_of n x) u ∙ ap (λ (k : ℕ). (get_or (lane_rows_of n) k the_no_lane_of).first_point_of) w ∙ ap (λ (r : LaneRow). r.first_point_of) (nth-along lane_size lane_row the_no_lane_of 0 lane) ∙ z

  zone-first : (p q : ℕ) {i : ℕ} {z : Zone N} {l : List (Zone N)} (t : Nth i z l) → (get_or (zone_rows_from p q l) (pred i) the_no_zone_of).first_point_of ≡ p + before zone_size t
  unfolding before
  zone-first p q first = omega arith
  zone-first p q (later {i = i} {b = b} {l = l} t) =
      let h = zone-first (p + zone_size b) (q + length b.spots) t in
      let e : (p + zone_size b) + before zone_size t ≡ p + (zone_size b + before zone_size t) = omega arith in
      ap (λ (j : ℕ). (get_or (zone_rows_from p q (b ∷ l)) j the_no_zone_of).first_point_of) (one_up t) ∙ h ∙ e

  zone-there : (n : Network N) (x y i : ℕ) (z : Zone N) → y ≡ 0 → x ≡ length n.segments + i → (t : Nth i z n.zones) → part_row_of n x y ≡ first_zone_point n + before zone_size t
  zone-there n x y i z ey ex t =
      let u : x - length n.segments ≡ i = omega arith in
      ap (part_row_of n x) ey ∙ ap (λ (k : ℕ). (get_or (zone_rows_from (first_zone_point n) 0 n.zones) (pred k) the_no_zone_of).first_point_of) u ∙ zone-first (first_zone_point n) 0 t

  -- ## A declared point's row is a row of the points
  pub first-zone-same : (n n' : Network N) → SameFrame n n' → first_zone_point n ≡ first_zone_point n'
  first-zone-same n n' f = length-gather (λ a. a.points) (all_lanes n) ∙ total-same lane_size (all_lanes n) (all_lanes n') f.lanes ∙ sym (length-gather (λ a. a.points) (all_lanes n'))

  -- lanes come before zones
  waypoint-below : (n : Network N) (e : PointId) (s : Segment N) (a : Lane) → Nth e.x s n.segments → Nth e.y a s.lanes → Between 1 (length a.points) e.z → point_row_of n e < first_zone_point n
  waypoint-below n e s a i j b =
      let r = lane-there n e.x e.y s a i j in
      let w = before-within lane_size (nth-gather (λ (s : Segment N). s.lanes) i j) in
      let g = length-gather (λ (a : Lane). a.points) (all_lanes n) in
      let low = b.low in let high = b.high in
      omega arith

  border_in-zone : (z : Zone N) (k : ℕ) → Between 1 (length z.border.points) k → pred k < zone_size z
  border_in-zone z k b = let h = length-append z.border.points (gather spot_points z.spots) in omega arith

  pub point-there : (n : Network N) (e : PointId) → Declared n e → point_row_of n e < length (tables n).points
  unfolding tables_with
  point-there n e (waypoint s a i j b) =
      let w = waypoint-below n e s a i j b in
      let h = length-append (lane_points n) (gather zone_points n.zones) in
      omega arith
  point-there n e (border i z ey ex t b) =
      let r = zone-there n e.x e.y i z ey ex t in
      let k = border_in-zone z e.z b in
      let w = before-within zone_size t in
      let g = length-gather zone_points n.zones in
      let h = length-append (lane_points n) (gather zone_points n.zones) in
      omega arith

  -- ## Different points have different rows
  -- even those of two networks, where these have the same frame
  pub point-row_injective : (n n' : Network N) → SameFrame n n' → (e e' : PointId) → Declared n e → Declared n' e' → point_row_of n e ≡ point_row_of n' e' → e ≡ e'
  point-row_injective n n' f e e' (waypoint s a i j b) (waypoint s' a' i' j' b') d =
      let lane : Nth (before lanes_in i + e.y) a (all_lanes n) = nth-gather (λ s. s.lanes) i j in
      let lane' : Nth (before lanes_in i' + e'.y) a' (all_lanes n') = nth-gather (λ s. s.lanes) i' j' in
      let r = lane-there n e.x e.y s a i j in
      let r' = lane-there n' e'.x e'.y s' a' i' j' in
      let low = b.low in let high = b.high in
      let low' = b'.low in let high' = b'.high in
      let at = same_place lane_size lane lane' (pred e.z) (pred e'.z) (omega arith) (omega arith) f.lanes (omega arith) in
      let u = one_up j in let u' = one_up j' in let v = nth_le j in let v' = nth_le j' in let k = at.0 in
      let in-segment = same_place lanes_in i i' (pred e.y) (pred e'.y) (omega arith) (omega arith) f.segments (omega arith) in
      let k₁ = in-segment.1 in let k₂ = at.1 in
      let ey : e.y ≡ e'.y = omega arith in
      let ez : e.z ≡ e'.z = omega arith in
      let ex = in-segment.0 in
      λ i. record { x = ex i; y = ey i; z = ez i }
  point-row_injective n n' f e e' (waypoint s a i j b) (border i' z' ey' ex' t' b') d =
      let w = waypoint-below n e s a i j b in let g = first-zone-same n n' f in let r' = zone-there n' e'.x e'.y i' z' ey' ex' t' in absurd (omega arith)
  point-row_injective n n' f e e' (border i z ey ex t b) (waypoint s' a' i' j' b') d =
      let w = waypoint-below n' e' s' a' i' j' b' in let g = first-zone-same n n' f in let r = zone-there n e.x e.y i z ey ex t in absurd (omega arith)
  point-row_injective n n' f e e' (border i z ey ex t b) (border i' z' ey' ex' t' b') d =
      let r = zone-there n e.x e.y i z ey ex t in
      let r' = zone-there n' e'.x e'.y i' z' ey' ex' t' in
      let g = first-zone-same n n' f in
      let at = same_place zone_size t t' (pred e.z) (pred e'.z) (border_in-zone z e.z b) (border_in-zone z' e'.z b') f.zones (omega arith) in
      let m = sym (length-map n.segments lanes_in) ∙ ap (λ (l : List ℕ). length l) f.segments ∙ length-map n'.segments lanes_in in
      let k = at.0 in let k₁ = at.1 in
      let low = b.low in let low' = b'.low in
      let x-same : e.x ≡ e'.x = omega arith in
      let y-same : e.y ≡ e'.y = omega arith in
      let z-same : e.z ≡ e'.z = omega arith in
      λ i. record { x = x-same i; y = y-same i; z = z-same i }

  pub point-row-tells : (n : Network N) (e e' : PointId) → Declared n e → Declared n e' → point_row_of n e ≡ point_row_of n e' → e ≡ e'
  point-row-tells n = point-row_injective n n (record { segments = refl; lanes = refl; zones = refl })
