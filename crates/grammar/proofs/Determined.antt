-- A network or mission is its tables. Document 01, "Tables": "A network or mission is its tables with each name's bytes in place of start and length." Assumes nothing.
-- In this order: rows of segments, lanes and zones give the counts (the frame), so the first rows; the counts cut the points; a checkpoint, stop or exit names a point
-- of its own part, so the first rows cut those tables into the blocks of the parts; a declared entry is told by its row. That each part has a point is not needed.
use mathlib.Core.Path.{◌≡◌, refl, sym, ap, subst, ◌∙◌}
use mathlib.Core.List.{List, [], ◌∷◌, ◌++◌, map, nil≢cons, cons≢nil, head-eq_of_cons-eq, tail-eq_of_cons-eq}
use mathlib.Core.Option.{Option, none, some}
use Prim.Native.Nat.{ℕ, zero, suc, ◌+◌, ◌≤◌}
use native.Mathlib.Omega.{arith}
use lib.ListN.{length}
use Rattle.terms.specs.Words.{Each, perhaps, Between}
use Rattle.terms.proofs.Lists.{each-any, each_map}
use Rattle.grammar.specs.Statements.{Boundary, double_yellow_of, solid_yellow_of, solid_white_of, broken_white_of, PointId, Position}
use Rattle.grammar.specs.Network.{largest, Checkpoint, Exit, Lane, Segment, Spot, Zone, Network, GoodLane, GoodSpot}
use Rattle.grammar.specs.Mission.{Mission}
use Rattle.grammar.specs.Tables.{SegmentRow, LaneRow, ZoneRow, SpotRow, CheckpointRow, feet, side, gather, along, lane_size, spot_points, lane_row, the_spot_row_of, checkpoint_row, exit_row, the_row_of, all_lanes, zone_points, zone_size, lane_points, first_zone_point, the_segment_row_of, the_zone_row_of, zone_rows_from, over_spots, point_row_of, tables_with, tables_unresolved, tables, mission_tables}
use Rattle.grammar.specs.References.{Declared, all_exits, Sound}
use Rattle.grammar.specs.HouseOrder.{GoodZone, GoodNetwork}
use Rattle.grammar.proofs.Rows.{agree-both, agree-by, agree-any, equal-any, same_length, cut_at, total, total-same, length-gather, gather-agree, rows_agree, Own, blocks-agree, names-agree, halves}
use Rattle.grammar.proofs.PointRows.{SameFrame, lanes_in, first-zone-same, point-row_injective}
use Rattle.grammar.proofs.RowsInside.{marks, spot-marks, OnSpot, zone-size-is, over-own, good-lanes, names-own-points, checkpoints-own, exits-own, border-exits-own, marks-own, spot-checkpoints-own, lane-known, border-known}

-- ## Numbers that stand for options
-- 01: "A missing width is 65,535, since 0 is a lane width."
feet-tells : (o o' : Option ℕ) → Each (λ w. w ≤ largest) (perhaps o) → Each (λ w. w ≤ largest) (perhaps o') → feet o ≡ feet o' → o ≡ o'
feet-tells none none h h' e = refl
feet-tells none (some w) h h' e = let k = h'.0 in absurd (omega arith)
feet-tells (some w) none h h' e = let k = h.0 in absurd (omega arith)
feet-tells (some w) (some w') h h' e = ap some e

-- 01: "1 to 4 in the order above"; "A missing boundary is 0."
abbrev the_side_of : ℕ → Option Boundary
the_side_of zero = none
the_side_of (suc zero) = some double_yellow_of
the_side_of (suc (suc zero)) = some solid_yellow_of
the_side_of (suc (suc (suc zero))) = some solid_white_of
the_side_of (suc (suc (suc (suc n)))) = some broken_white_of

side-back : (o : Option Boundary) → the_side_of (side o) ≡ o
side-back none = refl
side-back (some double_yellow_of) = refl
side-back (some solid_yellow_of) = refl
side-back (some solid_white_of) = refl
side-back (some broken_white_of) = refl

side-tells : (o o' : Option Boundary) → side o ≡ side o' → o ≡ o'
side-tells o o' e = sym (side-back o) ∙ ap the_side_of e ∙ side-back o'

perhaps-tells : {A : Type 0} (o o' : Option A) → perhaps o ≡ perhaps o' → o ≡ o'
perhaps-tells none none e = refl
perhaps-tells none (some a) e = absurd (nil≢cons e)
perhaps-tells (some a) none e = absurd (cons≢nil e)
perhaps-tells (some a) (some a') e = ap some (head-eq_of_cons-eq e)

any : {A X : Type 0} (xs : A → List X) (l : List A) → Each (λ a. Each (λ x. Unit {0}) (xs a)) l
any xs l = each_map (λ a. Unit {0}) (λ a. Each (λ x. Unit {0}) (xs a)) (λ a u. each-any (xs a)) l (each-any l)

checkpoint_told_of : (p : ℕ) (c c' : Checkpoint) → c.waypoint ≡ c'.waypoint → Unit {0} → Unit {0} → checkpoint_row p c ≡ checkpoint_row p c' → c ≡ c'
checkpoint_told_of p c c' w u u' e = λ i. record { waypoint = w i; number = (e i).number }

-- ## Spots
abbrev spot-tells : Spot → (Option ℕ × List Checkpoint) × List Position
spot-tells s = ((s.width, perhaps s.checkpoint), spot_points s)

spot-equal : (s s' : Spot) → spot-tells s ≡ spot-tells s' → s ≡ s'
spot-equal s s' e =
    let w = ap (λ x. x.0.0) e in
    let c = perhaps-tells s.checkpoint s'.checkpoint (ap (λ x. x.0.1) e) in
    let p = ap (λ x. x.1) e in
    let p₁ = head-eq_of_cons-eq p in
    let p₂ = head-eq_of_cons-eq (tail-eq_of_cons-eq p) in
    λ i. record { width = w i; checkpoint = c i; first = p₁ i; second = p₂ i }

spots-equal : (l l' : List Spot) → map (λ s. s.width) l ≡ map (λ s. s.width) l' → map (λ s. perhaps s.checkpoint) l ≡ map (λ s. perhaps s.checkpoint) l' → map spot_points l ≡ map spot_points l' → l ≡ l'
spots-equal l l' w c p = equal-any spot-tells spot-equal l l'
    (agree-both (λ s. (spot-tells s).0) spot_points l l' (agree-both (λ s. s.width) (λ s. perhaps s.checkpoint) l l' w c) p)

-- ## Lanes
abbrev lane-tells : Lane → (((((Option ℕ × Option Boundary) × Option Boundary) × List Checkpoint) × List ℕ) × List Exit) × List Position
lane-tells a = ((((((a.width, a.left), a.right), a.checkpoints), a.stops), a.exits), a.points)

lane-equal : (a a' : Lane) → lane-tells a ≡ lane-tells a' → a ≡ a'
lane-equal a a' e = λ i. record { width = (e i).0.0.0.0.0.0; left = (e i).0.0.0.0.0.1; right = (e i).0.0.0.0.1; checkpoints = (e i).0.0.0.1; stops = (e i).0.0.1; exits = (e i).0.1; points = (e i).1 }

-- lists of lanes that agree on every field
record LanesAgree (l l' : List Lane) : Type 0 where
  width : map (λ a. a.width) l ≡ map (λ a. a.width) l'
  left : map (λ a. a.left) l ≡ map (λ a. a.left) l'
  right : map (λ a. a.right) l ≡ map (λ a. a.right) l'
  checkpoints : map (λ a. a.checkpoints) l ≡ map (λ a. a.checkpoints) l'
  stops : map (λ a. a.stops) l ≡ map (λ a. a.stops) l'
  exits : map (λ a. a.exits) l ≡ map (λ a. a.exits) l'
  points : map (λ a. a.points) l ≡ map (λ a. a.points) l'

lanes-equal : (l l' : List Lane) → LanesAgree l l' → l ≡ l'
lanes-equal l l' g = equal-any lane-tells lane-equal l l'
    (agree-both (λ a. (lane-tells a).0) (λ a. a.points) l l' (agree-both (λ a. (lane-tells a).0.0) (λ a. a.exits) l l' (agree-both (λ a. (lane-tells a).0.0.0) (λ a. a.stops) l l'
    (agree-both (λ a. (lane-tells a).0.0.0.0) (λ a. a.checkpoints) l l' (agree-both (λ a. (lane-tells a).0.0.0.0.0) (λ a. a.right) l l' (agree-both (λ a. a.width) (λ a. a.left) l l' g.width g.left) g.right) g.checkpoints) g.stops) g.exits) g.points)

-- ## Segments and zones
module _ {N : Type 0} where
  abbrev segment-tells : Segment N → Option N × List Lane
  segment-tells s = (s.name, s.lanes)

  segment-equal : (s s' : Segment N) → segment-tells s ≡ segment-tells s' → s ≡ s'
  segment-equal s s' e = λ i. record { name = (e i).0; lanes = (e i).1 }

  abbrev zone-tells : Zone N → ((Option N × List Exit) × List Position) × List Spot
  zone-tells z = (((z.name, z.border.exits), z.border.points), z.spots)

  zone-equal : (z z' : Zone N) → zone-tells z ≡ zone-tells z' → z ≡ z'
  zone-equal z z' e = λ i. record { name = (e i).0.0.0; border = record { exits = (e i).0.0.1; points = (e i).0.1 }; spots = (e i).1 }

  -- how many points a zone's perimeter has, and how many spots there are
  abbrev zone-counts : Zone N → ℕ × ℕ
  zone-counts z = (length z.border.points, length z.spots)

  counts-size : (z z' : Zone N) → zone-counts z ≡ zone-counts z' → zone_size z ≡ zone_size z'
  counts-size z z' e =
      let a = zone-size-is z in let a' = zone-size-is z' in
      let b = ap (λ x. x.0) e in
      let c = total-same (λ s. 2) z.spots z'.spots (same_length 2 z.spots z'.spots (ap (λ x. x.1) e)) in
      omega arith

  zone-rows_map : {C : Type 0} (h : ZoneRow N → C) (g : Zone N → C) → ((p q : ℕ) (z : Zone N) → h (the_zone_row_of p q z) ≡ g z) → (p q : ℕ) (l : List (Zone N)) → map h (zone_rows_from p q l) ≡ map g l
  zone-rows_map h g e p q [] = refl
  zone-rows_map h g e p q (z ∷ l) = let here = e p q z in let rest = zone-rows_map h g e (p + zone_size z) (q + length z.spots) l in λ i. here i ∷ rest i

-- ## Two networks with the same tables
-- f gives the entries, and tells those that are K
module _ {N E : Type 0} (n n' : Network N) (f f' : PointId → E) (K K' : PointId → Type 0) (entry-told : SameFrame n n' → (e e' : PointId) → K e → K' e' → f e ≡ f' e' → e ≡ e')
    (good : GoodNetwork n) (good' : GoodNetwork n') (known : Each (λ e. K e.entry) (all_exits n)) (known' : Each (λ e. K' e.entry) (all_exits n')) (t : tables_with f n ≡ tables_with f' n') where
  -- ### Their frames
  zones-agree : {C : Type 0} (h : ZoneRow N → C) (g : Zone N → C) → ((p q : ℕ) (z : Zone N) → h (the_zone_row_of p q z) ≡ g z) → map g n.zones ≡ map g n'.zones
  unfolding tables_with
  zones-agree h g e = sym (zone-rows_map h g e (first_zone_point n) 0 n.zones) ∙ ap (λ t. map h t.zones) t ∙ zone-rows_map h g e (first_zone_point n') 0 n'.zones

  lanes-agree : {C : Type 0} (h : LaneRow → C) (g : Lane → C) → ((p : ℕ) (a : Lane) → h (lane_row p a) ≡ g a) → map g (all_lanes n) ≡ map g (all_lanes n')
  unfolding tables_with
  lanes-agree h g e = rows_agree lane_size lane_row h g e 0 0 (all_lanes n) (all_lanes n') (ap (λ t. t.lanes) t)

  segments-agree : {C : Type 0} (h : SegmentRow N → C) (g : Segment N → C) → ((p : ℕ) (s : Segment N) → h (the_segment_row_of p s) ≡ g s) → map g n.segments ≡ map g n'.segments
  unfolding tables_with
  segments-agree h g e = rows_agree lanes_in the_segment_row_of h g e 0 0 n.segments n'.segments (ap (λ t. t.segments) t)

  same-counts : map zone-counts n.zones ≡ map zone-counts n'.zones
  same-counts = zones-agree (λ r. (r.points, r.spots)) zone-counts (λ p q z. refl)

  frame : SameFrame n n'
  frame = record {
    segments = segments-agree (λ r. r.lanes) lanes_in (λ p s. refl);
    lanes = lanes-agree (λ r. r.points) lane_size (λ p a. refl);
    zones = agree-any zone-counts zone_size counts-size n.zones n'.zones same-counts;
  }

  -- ### Points
  same_points : (lane_points n ≡ lane_points n') × (gather zone_points n.zones ≡ gather zone_points n'.zones)
  unfolding tables_with
  same_points = cut_at (lane_points n) (lane_points n') (gather zone_points n.zones) (gather zone_points n'.zones) (first-zone-same n n' frame) (ap (λ t. t.points) t)

  same-zone-points : {C : Type 0} (g : Zone N → C) → ((z z' : Zone N) → zone-counts z ≡ zone-counts z' → z.border.points ≡ z'.border.points → gather spot_points z.spots ≡ gather spot_points z'.spots → g z ≡ g z') → map g n.zones ≡ map g n'.zones
  same-zone-points g f = agree-any both g
      (λ z z' e. let c = cut_at z.border.points z'.border.points (gather spot_points z.spots) (gather spot_points z'.spots) (ap (λ x. x.0.0) e) (ap (λ x. x.1) e) in f z z' (ap (λ x. x.0) e) c.0 c.1)
      n.zones n'.zones (agree-both zone-counts zone_points n.zones n'.zones same-counts (gather-agree zone_points n.zones n'.zones frame.zones same_points.1))
    where
      both : Zone N → (ℕ × ℕ) × List Position
      both z = (zone-counts z, zone_points z)

  same-borders : map (λ z. z.border.points) n.zones ≡ map (λ z. z.border.points) n'.zones
  same-borders = same-zone-points (λ z. z.border.points) (λ z z' c b s. b)

  same-spot-points : map (λ z. map spot_points z.spots) n.zones ≡ map (λ z. map spot_points z.spots) n'.zones
  same-spot-points = same-zone-points (λ z. map spot_points z.spots) (λ z z' c b s. gather-agree spot_points z.spots z'.spots (same_length 2 z.spots z'.spots (ap (λ x. x.1) c)) s)

  -- ### Spots
  same-spot-widths : map (λ z. map (λ s. s.width) z.spots) n.zones ≡ map (λ z. map (λ s. s.width) z.spots) n'.zones
  unfolding tables_with
  same-spot-widths = blocks-agree zone_size (λ r. r.first_point_of) (over_spots row) (over_spots row) zone-counts (λ z. map (λ s. s.width) z.spots) GoodZone GoodZone counts-size (λ z g. own z) (λ z g. own z) told
      (first_zone_point n) n.zones n'.zones good.zones good'.zones same-counts
      (ap (λ t. t.spots) t ∙ ap (λ (p : ℕ). along zone_size (over_spots row) p n'.zones) (sym (first-zone-same n n' frame)))
    where
      row : ℕ → Spot → List SpotRow
      row first s = the_spot_row_of first s ∷ []

      own : (z : Zone N) → Own zone_size (λ r. r.first_point_of) (over_spots row) z
      own z = over-own (λ r. r.first_point_of) row z (each_map (λ s. Unit {0}) (Own (λ s. 2) (λ r. r.first_point_of) row) (λ s u p. (omega arith, tt)) z.spots (each-any z.spots))

      told : (p : ℕ) (z z' : Zone N) → GoodZone z → GoodZone z' → zone-counts z ≡ zone-counts z' → over_spots row p z ≡ over_spots row p z' → map (λ s. s.width) z.spots ≡ map (λ s. s.width) z'.spots
      told p z z' g g' c e = agree-by GoodSpot GoodSpot (λ s. feet s.width) (λ s. feet s.width) (λ s. s.width)
          (λ s s' g g'. feet-tells s.width s'.width (each_map (Between 1 largest) (λ w. w ≤ largest) (λ w b. b.high) (perhaps s.width) g.width) (each_map (Between 1 largest) (λ w. w ≤ largest) (λ w b. b.high) (perhaps s'.width) g'.width))
          z.spots z'.spots g.spots g'.spots
          (rows_agree (λ s. 2) the_spot_row_of (λ r. r.width) (λ s. feet s.width) (λ p s. refl) (p + length z.border.points) (p + length z'.border.points) z.spots z'.spots e)

  -- ### Checkpoints
  lanes_end : first_zone_point n ≡ total lane_size (all_lanes n)
  lanes_end = length-gather (λ a. a.points) (all_lanes n)

  lanes_end' : first_zone_point n ≡ total lane_size (all_lanes n')
  lanes_end' = first-zone-same n n' frame ∙ length-gather (λ a. a.points) (all_lanes n')

  same-checkpoints : (along lane_size (λ first a. map (checkpoint_row first) a.checkpoints) 0 (all_lanes n) ≡ along lane_size (λ first a. map (checkpoint_row first) a.checkpoints) 0 (all_lanes n'))
      × (along zone_size (over_spots marks) (first_zone_point n) n.zones ≡ along zone_size (over_spots marks) (first_zone_point n) n'.zones)
  unfolding tables_with
  same-checkpoints = halves lane_size zone_size (λ r. r.point) of-lane of-lane (over_spots marks) (over_spots marks) (first_zone_point n) (first_zone_point n') (all_lanes n) (all_lanes n') n.zones n'.zones
      (checkpoints-own n (names-own-points n good)) (checkpoints-own n' (names-own-points n' good')) (spot-checkpoints-own n (names-own-points n good)) (spot-checkpoints-own n' (names-own-points n' good'))
      lanes_end lanes_end' (first-zone-same n n' frame)
      (subst (λ (f : ℕ → Spot → List CheckpointRow). along lane_size of-lane 0 (all_lanes n) ++ along zone_size (over_spots f) (first_zone_point n) n.zones ≡ along lane_size of-lane 0 (all_lanes n') ++ along zone_size (over_spots f) (first_zone_point n') n'.zones)
      spot-marks (ap (λ t. t.checkpoints) t))
    where
      of-lane : ℕ → Lane → List CheckpointRow
      of-lane first a = map (checkpoint_row first) a.checkpoints

  same-lane-checkpoints : map (λ a. a.checkpoints) (all_lanes n) ≡ map (λ a. a.checkpoints) (all_lanes n')
  same-lane-checkpoints = names-agree lane_size (λ r. r.point) checkpoint_row checkpoint_row (λ c. c.waypoint) (λ a. a.checkpoints) (λ c. Unit {0}) (λ c. Unit {0}) (λ p c. refl) (λ p c. refl) checkpoint_told_of
      0 (all_lanes n) (all_lanes n') (names-own-points n good).lane-checkpoints (any (λ a. a.checkpoints) (all_lanes n)) (names-own-points n' good').lane-checkpoints (any (λ a. a.checkpoints) (all_lanes n'))
      frame.lanes same-checkpoints.0

  same-spot-checkpoints : map (λ z. map (λ s. perhaps s.checkpoint) z.spots) n.zones ≡ map (λ z. map (λ s. perhaps s.checkpoint) z.spots) n'.zones
  same-spot-checkpoints = blocks-agree zone_size (λ r. r.point) (over_spots marks) (over_spots marks) zone-counts (λ z. map (λ s. perhaps s.checkpoint) z.spots) OnSpots OnSpots counts-size marks-own marks-own told
      (first_zone_point n) n.zones n'.zones (names-own-points n good).spot_checkpoints (names-own-points n' good').spot_checkpoints same-counts same-checkpoints.1
    where
      OnSpots : Zone N → Type 0
      OnSpots z = Each OnSpot z.spots

      told : (p : ℕ) (z z' : Zone N) → OnSpots z → OnSpots z' → zone-counts z ≡ zone-counts z' → over_spots marks p z ≡ over_spots marks p z' → map (λ s. perhaps s.checkpoint) z.spots ≡ map (λ s. perhaps s.checkpoint) z'.spots
      told p z z' o o' c e = names-agree (λ s. 2) (λ r. r.point) checkpoint_row checkpoint_row (λ c. c.waypoint) (λ s. perhaps s.checkpoint) (λ c. Unit {0}) (λ c. Unit {0}) (λ p c. refl) (λ p c. refl) checkpoint_told_of
          (p + length z.border.points) z.spots z'.spots o (any (λ s. perhaps s.checkpoint) z.spots) o' (any (λ s. perhaps s.checkpoint) z'.spots) (same_length 2 z.spots z'.spots (ap (λ x. x.1) c))
          (e ∙ ap (λ (k : ℕ). along (λ s. 2) marks (p + k) z'.spots) (sym (ap (λ x. x.0) c)))

  -- ### Stops
  same-stops : map (λ a. a.stops) (all_lanes n) ≡ map (λ a. a.stops) (all_lanes n')
  unfolding tables_with
  same-stops = names-agree lane_size (λ r. r) the_row_of the_row_of (λ i. i) (λ a. a.stops) (λ i. Unit {0}) (λ i. Unit {0}) (λ p i. refl) (λ p i. refl) (λ p i i' w u u' e. w)
      0 (all_lanes n) (all_lanes n') (names-own-points n good).lane-stops (any (λ a. a.stops) (all_lanes n)) (names-own-points n' good').lane-stops (any (λ a. a.stops) (all_lanes n')) frame.lanes (ap (λ t. t.stops) t)

  -- ### Exits
  same-exits : (along lane_size (λ first a. map (exit_row f first) a.exits) 0 (all_lanes n) ≡ along lane_size (λ first a. map (exit_row f' first) a.exits) 0 (all_lanes n'))
      × (along zone_size (λ first z. map (exit_row f first) z.border.exits) (first_zone_point n) n.zones ≡ along zone_size (λ first z. map (exit_row f' first) z.border.exits) (first_zone_point n) n'.zones)
  unfolding tables_with
  same-exits = halves lane_size zone_size (λ r. r.point) (λ first a. map (exit_row f first) a.exits) (λ first a. map (exit_row f' first) a.exits)
      (λ first z. map (exit_row f first) z.border.exits) (λ first z. map (exit_row f' first) z.border.exits) (first_zone_point n) (first_zone_point n') (all_lanes n) (all_lanes n') n.zones n'.zones
      (exits-own f n (names-own-points n good)) (exits-own f' n' (names-own-points n' good')) (border-exits-own f n (names-own-points n good)) (border-exits-own f' n' (names-own-points n' good'))
      lanes_end lanes_end' (first-zone-same n n' frame) (ap (λ t. t.exits) t)

  exit_told_of : (p : ℕ) (e e' : Exit) → e.waypoint ≡ e'.waypoint → K e.entry → K' e'.entry → exit_row f p e ≡ exit_row f' p e' → e ≡ e'
  exit_told_of p e e' w d d' q = let k = entry-told frame e.entry e'.entry d d' (ap (λ r. r.entry) q) in λ i. record { waypoint = w i; entry = k i }

  same-lane-exits : map (λ a. a.exits) (all_lanes n) ≡ map (λ a. a.exits) (all_lanes n')
  same-lane-exits = names-agree lane_size (λ r. r.point) (exit_row f) (exit_row f') (λ e. e.waypoint) (λ a. a.exits) (λ e. K e.entry) (λ e. K' e.entry) (λ p e. refl) (λ p e. refl) exit_told_of
      0 (all_lanes n) (all_lanes n') (names-own-points n good).lane-exits (lane-known n (λ e. K e.entry) known) (names-own-points n' good').lane-exits (lane-known n' (λ e. K' e.entry) known') frame.lanes same-exits.0

  same-border-exits : map (λ z. z.border.exits) n.zones ≡ map (λ z. z.border.exits) n'.zones
  same-border-exits = names-agree zone_size (λ r. r.point) (exit_row f) (exit_row f') (λ e. e.waypoint) (λ z. z.border.exits) (λ e. K e.entry) (λ e. K' e.entry) (λ p e. refl) (λ p e. refl) exit_told_of
      (first_zone_point n) n.zones n'.zones (names-own-points n good).border-exits (border-known n (λ e. K e.entry) known) (names-own-points n' good').border-exits (border-known n' (λ e. K' e.entry) known') frame.zones same-exits.1

  -- ### All together
  same-lanes : all_lanes n ≡ all_lanes n'
  same-lanes = lanes-equal (all_lanes n) (all_lanes n') (record {
    width = agree-by GoodLane GoodLane (λ a. feet a.width) (λ a. feet a.width) (λ a. a.width) (λ a a' g g'. feet-tells a.width a'.width g.width g'.width) (all_lanes n) (all_lanes n') (good-lanes n good) (good-lanes n' good') (lanes-agree (λ r. r.width) (λ a. feet a.width) (λ p a. refl));
    left = agree-any (λ a. side a.left) (λ a. a.left) (λ a a'. side-tells a.left a'.left) (all_lanes n) (all_lanes n') (lanes-agree (λ r. r.left) (λ a. side a.left) (λ p a. refl));
    right = agree-any (λ a. side a.right) (λ a. a.right) (λ a a'. side-tells a.right a'.right) (all_lanes n) (all_lanes n') (lanes-agree (λ r. r.right) (λ a. side a.right) (λ p a. refl));
    checkpoints = same-lane-checkpoints;
    stops = same-stops;
    exits = same-lane-exits;
    points = gather-agree (λ a. a.points) (all_lanes n) (all_lanes n') frame.lanes same_points.0;
  })

  same-segments : n.segments ≡ n'.segments
  same-segments = equal-any segment-tells segment-equal n.segments n'.segments
      (agree-both (λ s. s.name) (λ s. s.lanes) n.segments n'.segments (segments-agree (λ r. r.name) (λ s. s.name) (λ p s. refl)) (gather-agree (λ s. s.lanes) n.segments n'.segments frame.segments same-lanes))

  same-spots : map (λ z. z.spots) n.zones ≡ map (λ z. z.spots) n'.zones
  same-spots = agree-any spots-tell (λ z. z.spots) (λ z z' e. spots-equal z.spots z'.spots (ap (λ x. x.0.0) e) (ap (λ x. x.0.1) e) (ap (λ x. x.1) e))
      n.zones n'.zones
      (agree-both (λ z. (spots-tell z).0) (λ z. map spot_points z.spots) n.zones n'.zones (agree-both (λ z. map (λ s. s.width) z.spots) (λ z. map (λ s. perhaps s.checkpoint) z.spots) n.zones n'.zones same-spot-widths same-spot-checkpoints) same-spot-points)
    where
      spots-tell : Zone N → (List (Option ℕ) × List (List Checkpoint)) × List (List Position)
      spots-tell z = ((map (λ s. s.width) z.spots, map (λ s. perhaps s.checkpoint) z.spots), map spot_points z.spots)

  same-zones : n.zones ≡ n'.zones
  same-zones = equal-any zone-tells zone-equal n.zones n'.zones
      (agree-both (λ z. (zone-tells z).0) (λ z. z.spots) n.zones n'.zones (agree-both (λ z. (zone-tells z).0.0) (λ z. z.border.points) n.zones n'.zones
      (agree-both (λ z. z.name) (λ z. z.border.exits) n.zones n'.zones (zones-agree (λ r. r.name) (λ z. z.name) (λ p q z. refl)) same-border-exits) same-borders) same-spots)

  pub tables-with_determine : n ≡ n'
  unfolding tables_with
  tables-with_determine = let f = ap (λ t. t.file) t in λ i. record { name = (f i).name; version = (f i).version; date = (f i).date; segments = same-segments i; zones = same-zones i }

-- THE THEOREM. 01: "A network or mission is its tables with each name's bytes in place of start and length."
pub tables_determine : {N : Type 0} (n n' : Network N) → GoodNetwork n → GoodNetwork n' → Sound n → Sound n' → tables n ≡ tables n' → n ≡ n'
tables_determine n n' g g' s s' t = tables-with_determine n n' (point_row_of n) (point_row_of n') (Declared n) (Declared n') (point-row_injective n n') g g' s.entries s'.entries t

-- the same while the entries are not looked up, whether or not they are declared
pub as-read_determine : {N : Type 0} (n n' : Network N) → GoodNetwork n → GoodNetwork n' → tables_unresolved n ≡ tables_unresolved n' → n ≡ n'
as-read_determine n n' g g' t = tables-with_determine n n' (λ e. e) (λ e. e) (λ e. Unit {0}) (λ e. Unit {0}) (λ f e e' u u' q. q) g g' (each-any (all_exits n)) (each-any (all_exits n')) t

pub mission-tables_determine : {N : Type 0} (m m' : Mission N) → mission_tables m ≡ mission_tables m' → m ≡ m'
mission-tables_determine m m' t = λ i. record { name = (t i).file.name; rndf = (t i).file.rndf; version = (t i).file.version; date = (t i).file.date; goals = (t i).goals; limits = (t i).limits }
