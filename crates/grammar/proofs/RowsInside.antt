-- The points that checkpoints, stops and exits name are points of their own lane, perimeter or spot, so each row of these tables names a row of the points. Assumes nothing.
use mathlib.Core.Path.{◌≡◌, refl, sym, subst, fun_ext}
use mathlib.Core.List.{List, map}
use mathlib.Core.Option.{Option, none, some}
use Prim.Native.Nat.{ℕ, ◌+◌, ◌<◌}
use native.Mathlib.Omega.{arith}
use lib.ListN.{length, length-append}
use Rattle.terms.specs.Words.{Each, perhaps, Between}
use Rattle.terms.proofs.Lists.{each_map, each_append}
use Rattle.grammar.specs.Statements.{PointId}
use Rattle.grammar.specs.Network.{Checkpoint, Exit, Lane, Spot, Zone, Network, GoodCheckpoint, GoodExit, GoodPerimeterExit, GoodLane, GoodSpot}
use Rattle.grammar.specs.Tables.{CheckpointRow, ExitRow, Tables, gather, along, lane_size, spot_points, checkpoint_row, spot_checkpoint, exit_row, the_row_of, all_lanes, zone_points, zone_size, lane_points, first_zone_point, over_spots, point_row_of, tables_with, tables}
use Rattle.grammar.specs.References.{Declared, all_exits}
use Rattle.grammar.specs.HouseOrder.{GoodSegment, GoodZone, GoodNetwork}
use Rattle.grammar.proofs.Rows.{each-front, each-behind, each-gather, gather-each, each-of_map, total, length-gather, along-each, Within, Own, along-own, Names, names-own}
use Rattle.grammar.proofs.PointRows.{point-there}

-- ## Spots
-- what a spot's checkpoint gives, as a list of at most one
abbrev pub marks : ℕ → Spot → List CheckpointRow
marks first s = map (checkpoint_row first) (perhaps s.checkpoint)

pub spot-marks : ◌≡◌ {A = ℕ → Spot → List CheckpointRow} (λ first s. spot_checkpoint first s.checkpoint) marks
spot-marks = fun_ext (λ first. fun_ext (λ s. go first s.checkpoint))
  where
    go : (first : ℕ) (o : Option Checkpoint) → spot_checkpoint first o ≡ map (checkpoint_row first) (perhaps o)
    go first none = refl
    go first (some c) = refl

-- a spot's checkpoint is on its waypoint 1 or 2
abbrev pub OnSpot : Spot → Type 0
OnSpot = Names (λ s. 2) (λ c. c.waypoint) (λ s. perhaps s.checkpoint)

module _ {N : Type 0} where
  pub zone-size-is : (z : Zone N) → zone_size z ≡ length z.border.points + total (λ s. 2) z.spots
  zone-size-is z = let a = length-append z.border.points (gather spot_points z.spots) in let b = length-gather spot_points z.spots in omega arith

  -- what lies in the ranges of its spots lies in the range of the zone
  pub over-own : {B : Type 0} (key : B → ℕ) (f : ℕ → Spot → List B) (z : Zone N) → Each (Own (λ s. 2) key f) z.spots → Own zone_size key (over_spots f) z
  over-own key f z e p = let h = zone-size-is z in
      each_map (λ b. Within (p + length z.border.points) (total (λ s. 2) z.spots) (key b)) (λ b. Within p (zone_size z) (key b)) (λ b w. omega arith) (over_spots f p z)
      (along-own (λ s. 2) key f (p + length z.border.points) z.spots e)

  -- ## Whoever names a point names one of its own
  pub record NamesOwn (n : Network N) : Type 0 where
    pub lane-checkpoints : Each (Names lane_size (λ c. c.waypoint) (λ a. a.checkpoints)) (all_lanes n)
    pub lane-stops : Each (Names lane_size (λ i. i) (λ a. a.stops)) (all_lanes n)
    pub lane-exits : Each (Names lane_size (λ e. e.waypoint) (λ a. a.exits)) (all_lanes n)
    pub border-exits : Each (Names zone_size (λ e. e.waypoint) (λ z. z.border.exits)) n.zones
    pub spot_checkpoints : Each (λ z. Each OnSpot z.spots) n.zones

  pub good-lanes : (n : Network N) → GoodNetwork n → Each GoodLane (all_lanes n)
  good-lanes n g = gather-each GoodLane (λ s. s.lanes) n.segments (each_map GoodSegment (λ s. Each GoodLane s.lanes) (λ s g. g.lanes) n.segments g.segments)

  pub names-own-points : (n : Network N) → GoodNetwork n → NamesOwn n
  names-own-points n g = record {
    lane-checkpoints = each_map GoodLane (Names lane_size (λ c. c.waypoint) (λ a. a.checkpoints)) (λ a g. each_map (GoodCheckpoint 1 (lane_size a)) (λ c. Between 1 (lane_size a) c.waypoint) (λ c k. k.waypoint) a.checkpoints g.checkpoints) (all_lanes n) (good-lanes n g);
    lane-stops = each_map GoodLane (Names lane_size (λ i. i) (λ a. a.stops)) (λ a g. g.stops) (all_lanes n) (good-lanes n g);
    lane-exits = each_map GoodLane (Names lane_size (λ e. e.waypoint) (λ a. a.exits)) (λ a g. each_map (GoodExit (lane_size a)) (λ c. Between 1 (lane_size a) c.waypoint) (λ c k. k.waypoint) a.exits g.exits) (all_lanes n) (good-lanes n g);
    border-exits = each_map GoodZone (Names zone_size (λ e. e.waypoint) (λ z. z.border.exits)) border-exits n.zones g.zones;
    spot_checkpoints = each_map GoodZone (λ z. Each OnSpot z.spots) (λ z g. each_map GoodSpot OnSpot (λ s k. each_map (GoodCheckpoint 2 2) (λ c. Between 1 2 c.waypoint) (λ c k. let b = k.waypoint in omega (arith, b)) (perhaps s.checkpoint) k.checkpoint) z.spots g.spots) n.zones g.zones;
  }
    where
      border-exits : (z : Zone N) → GoodZone z → Names zone_size (λ e. e.waypoint) (λ z. z.border.exits) z
      border-exits z g = let h = zone-size-is z in each_map (GoodPerimeterExit (length z.border.points)) (λ e. Between 1 (zone_size z) e.waypoint) (λ e k. let b = k.waypoint in omega (arith, b)) z.border.exits g.border.exits

  -- the rows of each table lie in the ranges of the parts that gave them
  pub checkpoints-own : (n : Network N) → NamesOwn n → Each (Own lane_size (λ r. r.point) (λ first a. map (checkpoint_row first) a.checkpoints)) (all_lanes n)
  checkpoints-own n o = each_map (Names lane_size (λ c. c.waypoint) (λ a. a.checkpoints)) (Own lane_size (λ r. r.point) (λ first a. map (checkpoint_row first) a.checkpoints))
      (names-own lane_size (λ r. r.point) checkpoint_row (λ c. c.waypoint) (λ a. a.checkpoints) (λ p c. refl)) (all_lanes n) o.lane-checkpoints

  pub stops-own : (n : Network N) → NamesOwn n → Each (Own lane_size (λ r. r) (λ first a. map (the_row_of first) a.stops)) (all_lanes n)
  stops-own n o = each_map (Names lane_size (λ i. i) (λ a. a.stops)) (Own lane_size (λ r. r) (λ first a. map (the_row_of first) a.stops))
      (names-own lane_size (λ r. r) the_row_of (λ i. i) (λ a. a.stops) (λ p c. refl)) (all_lanes n) o.lane-stops

  pub exits-own : {E : Type 0} (f : PointId → E) (n : Network N) → NamesOwn n → Each (Own lane_size (λ r. r.point) (λ first a. map (exit_row f first) a.exits)) (all_lanes n)
  exits-own f n o = each_map (Names lane_size (λ e. e.waypoint) (λ a. a.exits)) (Own lane_size (λ r. r.point) (λ first a. map (exit_row f first) a.exits))
      (names-own lane_size (λ r. r.point) (exit_row f) (λ e. e.waypoint) (λ a. a.exits) (λ p c. refl)) (all_lanes n) o.lane-exits

  pub border-exits-own : {E : Type 0} (f : PointId → E) (n : Network N) → NamesOwn n → Each (Own zone_size (λ r. r.point) (λ first z. map (exit_row f first) z.border.exits)) n.zones
  border-exits-own f n o = each_map (Names zone_size (λ e. e.waypoint) (λ z. z.border.exits)) (Own zone_size (λ r. r.point) (λ first z. map (exit_row f first) z.border.exits))
      (names-own zone_size (λ r. r.point) (exit_row f) (λ e. e.waypoint) (λ z. z.border.exits) (λ p c. refl)) n.zones o.border-exits

  pub marks-own : (z : Zone N) → Each OnSpot z.spots → Own zone_size (λ r. r.point) (over_spots marks) z
  marks-own z e = over-own (λ r. r.point) marks z (each_map OnSpot (Own (λ s. 2) (λ r. r.point) marks) (names-own (λ s. 2) (λ r. r.point) checkpoint_row (λ c. c.waypoint) (λ s. perhaps s.checkpoint) (λ p c. refl)) z.spots e)

  pub spot-checkpoints-own : (n : Network N) → NamesOwn n → Each (Own zone_size (λ r. r.point) (over_spots marks)) n.zones
  spot-checkpoints-own n o = each_map (λ z. Each OnSpot z.spots) (Own zone_size (λ r. r.point) (over_spots marks)) marks-own n.zones o.spot_checkpoints

  -- ## Each names a row of the points
  pub record InPoints (t : Tables N ℕ) : Type 0 where
    pub checkpoints : Each (λ r. r.point < length t.points) t.checkpoints
    pub stops : Each (λ r. r < length t.points) t.stops
    pub exits : Each (λ r. r.point < length t.points) t.exits
    pub entries : Each (λ r. r.entry < length t.points) t.exits

  lanes-inside : {B : Type 0} (n : Network N) (key : B → ℕ) (f : ℕ → Lane → List B) → Each (Own lane_size key f) (all_lanes n) → Each (λ b. key b < length (tables n).points) (along lane_size f 0 (all_lanes n))
  unfolding tables_with
  lanes-inside n key f o =
      let h = length-append (lane_points n) (gather zone_points n.zones) in
      let g = length-gather (λ (a : Lane). a.points) (all_lanes n) in
      each_map (λ b. Within 0 (total lane_size (all_lanes n)) (key b)) (λ b. key b < length (tables n).points) (λ b w. let k = w.high in omega arith) (along lane_size f 0 (all_lanes n)) (along-own lane_size key f 0 (all_lanes n) o)

  zones_inside : {B : Type 0} (n : Network N) (key : B → ℕ) (f : ℕ → Zone N → List B) → Each (Own zone_size key f) n.zones → Each (λ b. key b < length (tables n).points) (along zone_size f (first_zone_point n) n.zones)
  unfolding tables_with
  zones_inside n key f o =
      let h = length-append (lane_points n) (gather zone_points n.zones) in
      let g = length-gather zone_points n.zones in
      each_map (λ b. Within (first_zone_point n) (total zone_size n.zones) (key b)) (λ b. key b < length (tables n).points) (λ b w. let k = w.high in omega arith) (along zone_size f (first_zone_point n) n.zones) (along-own zone_size key f (first_zone_point n) n.zones o)

  -- the exits of each lane, of each perimeter
  pub lane-known : (n : Network N) (P : Exit → Type 0) → Each P (all_exits n) → Each (λ a. Each P a.exits) (all_lanes n)
  lane-known n P e = each-gather P (λ a. a.exits) (all_lanes n) (each-front P (gather (λ a. a.exits) (all_lanes n)) (gather (λ z. z.border.exits) n.zones) e)

  pub border-known : (n : Network N) (P : Exit → Type 0) → Each P (all_exits n) → Each (λ z. Each P z.border.exits) n.zones
  border-known n P e = each-gather P (λ z. z.border.exits) n.zones (each-behind P (gather (λ a. a.exits) (all_lanes n)) (gather (λ z. z.border.exits) n.zones) e)

  entries-inside : (n : Network N) → Each (λ e. Declared n e.entry) (all_exits n) → Each (λ r. r.entry < length (tables n).points) (tables n).exits
  unfolding tables_with
  entries-inside n known =
      each_append In by-lanes by_zones_of
      (along-each In lane_size (λ first a. map (exit_row (point_row_of n) first) a.exits) 0 (all_lanes n)
      (each_map (λ a. Each Known a.exits) (λ a. (p : ℕ) → Each In (map (exit_row (point_row_of n) p) a.exits)) (λ a e p. of-exits p a.exits e) (all_lanes n) (lane-known n Known known)))
      (along-each In zone_size (λ first z. map (exit_row (point_row_of n) first) z.border.exits) (first_zone_point n) n.zones
      (each_map (λ z. Each Known z.border.exits) (λ z. (p : ℕ) → Each In (map (exit_row (point_row_of n) p) z.border.exits)) (λ z e p. of-exits p z.border.exits e) n.zones (border-known n Known known)))
    where
      by-lanes : List (ExitRow ℕ)
      by-lanes = along lane_size (λ first a. map (exit_row (point_row_of n) first) a.exits) 0 (all_lanes n)

      by_zones_of : List (ExitRow ℕ)
      by_zones_of = along zone_size (λ first z. map (exit_row (point_row_of n) first) z.border.exits) (first_zone_point n) n.zones

      In : ExitRow ℕ → Type 0
      In r = r.entry < length (tables n).points

      Known : Exit → Type 0
      Known e = Declared n e.entry

      of-exits : (p : ℕ) (es : List Exit) → Each Known es → Each In (map (exit_row (point_row_of n) p) es)
      of-exits p es k = each-of_map In (exit_row (point_row_of n) p) es (each_map Known (λ e. In (exit_row (point_row_of n) p e)) (λ e d. point-there n e.entry d) es k)

  pub rows_inside : (n : Network N) → GoodNetwork n → Each (λ e. Declared n e.entry) (all_exits n) → InPoints (tables n)
  unfolding tables_with
  rows_inside n good known = let o = names-own-points n good in record {
    checkpoints = each_append (λ r. r.point < length (tables n).points)
        (along lane_size (λ first a. map (checkpoint_row first) a.checkpoints) 0 (all_lanes n)) (along zone_size (over_spots (λ first s. spot_checkpoint first s.checkpoint)) (first_zone_point n) n.zones)
        (lanes-inside n (λ r. r.point) (λ first a. map (checkpoint_row first) a.checkpoints) (checkpoints-own n o))
        (zones_inside n (λ r. r.point) (over_spots (λ first s. spot_checkpoint first s.checkpoint)) (subst (λ (f : ℕ → Spot → List CheckpointRow). Each (Own zone_size (λ r. r.point) (over_spots f)) n.zones) (sym spot-marks) (spot-checkpoints-own n o)));
    stops = lanes-inside n (λ r. r) (λ first a. map (the_row_of first) a.stops) (stops-own n o);
    exits = each_append (λ r. r.point < length (tables n).points)
        (along lane_size (λ first a. map (exit_row (point_row_of n) first) a.exits) 0 (all_lanes n)) (along zone_size (λ first z. map (exit_row (point_row_of n) first) z.border.exits) (first_zone_point n) n.zones)
        (lanes-inside n (λ r. r.point) (λ first a. map (exit_row (point_row_of n) first) a.exits) (exits-own (point_row_of n) n o))
        (zones_inside n (λ r. r.point) (λ first z. map (exit_row (point_row_of n) first) z.border.exits) (border-exits-own (point_row_of n) n o));
    entries = entries-inside n known;
  }
