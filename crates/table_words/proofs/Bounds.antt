-- The numbers in the rows of a network, or of a mission, that keeps the ranges. Assumes nothing.
use mathlib.Core.Path.{◌≡◌, refl, sym, subst}
use mathlib.Core.List.{List, [], ◌∷◌, ◌++◌, map}
use mathlib.Core.Option.{Option, none, some}
use mathlib.Core.Logic.{◌⊎◌, inl, inr}
use Prim.Native.Nat.{ℕ, zero, suc, ◌+◌, ◌≤◌, ◌<◌}
use native.Mathlib.Omega.{arith}
use lib.ListN.{length, length-append}
use Rattle.terms.specs.Words.{Each, perhaps, Between}
use Rattle.terms.proofs.Lists.{each_map, each_append}
use Rattle.grammar.specs.Statements.{Boundary, double_yellow_of, solid_yellow_of, solid_white_of, broken_white_of, PointId, Position, Statement}
use Rattle.grammar.specs.MissionStatements as M
use Rattle.grammar.specs.Network.{largest, Checkpoint, Exit, Lane, Spot, Segment, Zone, Network, OnEarth, GoodCheckpoint, GoodEntry, GoodExit, GoodPerimeterExit, GoodLane, GoodSpot, SpellsNetwork}
use Rattle.grammar.specs.Mission.{Mission, GoodLimit, GoodMission, SpellsMission}
use Rattle.grammar.specs.Tables.{LaneRow, ZoneRow, SpotRow, CheckpointRow, Tables, feet, side, gather, along, lane_size, spot_points, the_segment_row_of, lane_row, the_spot_row_of, checkpoint_row, spot_checkpoint, exit_row, the_row_of, first_spot_of, all_lanes, zone_points, zone_size, lane_points, first_zone_point, zone_rows_from, over_spots, tables_with, tables_unresolved, tables, mission_tables}
use Rattle.grammar.specs.References.{Sound}
use Rattle.grammar.specs.HouseOrder.{GoodZone, GoodNetwork}
use Rattle.grammar.proofs.Rows.{gather-each, each_both, each-of_map, total, length-gather, along-each, Within, Own, along-own}
use Rattle.grammar.proofs.RowsInside.{marks, spot-marks, over-own, good-lanes, names-own-points, checkpoints-own, stops-own, exits-own, border-exits-own, spot-checkpoints-own, rows_inside}
use Rattle.grammar.proofs.Theorems.{network_ranges, mission_ranges}
use Rattle.fill.proofs.RowLaws.{length-along, one_each}

-- ## What is said of each row. `points`, `spots`, `lanes`: how many rows these tables have
-- a width is missing or in its range
abbrev pub WidthBound : ℕ → Type 0
WidthBound w = (w ≡ 65535) ⊎ (w ≤ largest)

pub record LaneBounds (points : ℕ) (r : LaneRow) : Type 0 where
  pub inside : r.first_point_of + r.points ≤ points
  pub width : WidthBound r.width
  pub left : r.left ≤ 4
  pub right : r.right ≤ 4

pub record ZoneBounds {N : Type 0} (points spots : ℕ) (r : ZoneRow N) : Type 0 where
  pub inside : r.first_point_of + r.points ≤ points
  pub spots_inside : r.first_spot_of + r.spots ≤ spots

-- a spot has two points
pub record SpotBounds (points : ℕ) (r : SpotRow) : Type 0 where
  pub inside : r.first_point_of + 2 ≤ points
  pub width : WidthBound r.width

pub record CheckpointBounds (points : ℕ) (r : CheckpointRow) : Type 0 where
  pub number : Between 1 largest r.number
  pub inside : r.point < points

pub record Bounded {N E : Type 0} (t : Tables N E) : Type 0 where
  pub segments : Each (λ r. r.first_lane + r.lanes ≤ length t.lanes) t.segments
  pub lanes : Each (LaneBounds (length t.points)) t.lanes
  pub zones : Each (ZoneBounds (length t.points) (length t.spots)) t.zones
  pub spots : Each (SpotBounds (length t.points)) t.spots
  pub points : Each OnEarth t.points
  pub checkpoints : Each (CheckpointBounds (length t.points)) t.checkpoints
  pub stops : Each (λ point. point < length t.points) t.stops
  pub exits : Each (λ r. r.point < length t.points) t.exits

-- ## Widths and boundaries
width-bound : (low : ℕ) (w : Option ℕ) → Each (Between low largest) (perhaps w) → WidthBound (feet w)
width-bound low none e = inl refl
width-bound low (some w) e = inr e.0.high

side-bound : (b : Option Boundary) → side b ≤ 4
side-bound none = omega arith
side-bound (some double_yellow_of) = omega arith
side-bound (some solid_yellow_of) = omega arith
side-bound (some solid_white_of) = omega arith
side-bound (some broken_white_of) = omega arith

-- ## Parts that stand one behind the other end where the last one ends
along-fits : {A R : Type 0} (size : A → ℕ) (row : ℕ → A → R) (first count : R → ℕ) → ((p : ℕ) (a : A) → first (row p a) + count (row p a) ≤ p + size a)
    → (p : ℕ) (l : List A) (end : ℕ) → p + total size l ≤ end → Each (λ r. first r + count r ≤ end) (along size (λ p a. row p a ∷ []) p l)
along-fits size row first count e p [] end h = tt
along-fits size row first count e p (a ∷ l) end h = (let k = e p a in omega arith, along-fits size row first count e (p + size a) l end (omega arith))

first-spot-fits : (q n : ℕ) → first_spot_of q n + n ≤ q + n
first-spot-fits q zero = omega arith
first-spot-fits q (suc n) = omega arith

within_end : {B : Type 0} (key : B → ℕ) (p size : ℕ) (l : List B) (end : ℕ) → p + size ≤ end → Each (λ b. Within p size (key b)) l → Each (λ b. key b < end) l
within_end key p size l end h = each_map (λ b. Within p size (key b)) (λ b. key b < end) (λ b w. let k = w.high in omega arith) l

module _ {N : Type 0} where
  zones-fit : (p q : ℕ) (l : List (Zone N)) (points spots : ℕ) → p + total zone_size l ≤ points → q + total (λ z. length z.spots) l ≤ spots → Each (ZoneBounds points spots) (zone_rows_from p q l)
  zones-fit p q [] points spots h k = tt
  zones-fit p q (z ∷ l) points spots h k =
      let a = length-append z.border.points (gather spot_points z.spots) in
      let b = first-spot-fits q (length z.spots) in
      (record { inside = omega arith; spots_inside = omega arith }, zones-fit (p + zone_size z) (q + length z.spots) l points spots (omega arith) (omega arith))

  module _ (n : Network N) (good : GoodNetwork n) where
    abbrev all-points : List Position
    all-points = lane_points n ++ gather zone_points n.zones

    lanes_end : 0 + total lane_size (all_lanes n) ≤ length all-points
    lanes_end = let a = length-append (lane_points n) (gather zone_points n.zones) in let b = length-gather (λ (a : Lane). a.points) (all_lanes n) in omega arith

    zones-end : first_zone_point n + total zone_size n.zones ≤ length all-points
    zones-end = let a = length-append (lane_points n) (gather zone_points n.zones) in let b = length-gather zone_points n.zones in omega arith

    lanes-inside : {B : Type 0} (key : B → ℕ) (f : ℕ → Lane → List B) → Each (Own lane_size key f) (all_lanes n) → Each (λ b. key b < length all-points) (along lane_size f 0 (all_lanes n))
    lanes-inside key f o = within_end key 0 (total lane_size (all_lanes n)) (along lane_size f 0 (all_lanes n)) (length all-points) lanes_end (along-own lane_size key f 0 (all_lanes n) o)

    zones_inside : {B : Type 0} (key : B → ℕ) (f : ℕ → Zone N → List B) → Each (Own zone_size key f) n.zones → Each (λ b. key b < length all-points) (along zone_size f (first_zone_point n) n.zones)
    zones_inside key f o = within_end key (first_zone_point n) (total zone_size n.zones) (along zone_size f (first_zone_point n) n.zones) (length all-points) zones-end (along-own zone_size key f (first_zone_point n) n.zones o)

    -- what is so of each spot of each zone
    good-spots : Each (λ z. Each GoodSpot z.spots) n.zones
    good-spots = each_map GoodZone (λ z. Each GoodSpot z.spots) (λ z g. g.spots) n.zones good.zones

    over-each : {B : Type 0} (P : B → Type 0) (f : ℕ → Spot → List B) → ((p : ℕ) (s : Spot) → GoodSpot s → Each P (f p s)) → Each P (along zone_size (over_spots f) (first_zone_point n) n.zones)
    over-each P f h = along-each P zone_size (over_spots f) (first_zone_point n) n.zones
        (each_map (λ z. Each GoodSpot z.spots) (λ z. (p : ℕ) → Each P (over_spots f p z))
        (λ z g p. along-each P (λ s. 2) f (p + length z.border.points) z.spots (each_map GoodSpot (λ s. (p : ℕ) → Each P (f p s)) (λ s k q. h q s k) z.spots g))
        n.zones good-spots)

    lane_each : {B : Type 0} (P : B → Type 0) (f : ℕ → Lane → List B) → ((p : ℕ) (a : Lane) → GoodLane a → Each P (f p a)) → Each P (along lane_size f 0 (all_lanes n))
    lane_each P f h = along-each P lane_size f 0 (all_lanes n) (each_map GoodLane (λ a. (p : ℕ) → Each P (f p a)) (λ a g p. h p a g) (all_lanes n) (good-lanes n good))

    -- ## Table by table
    segment-bounds : (count : ℕ) → length (all_lanes n) ≤ count → Each (λ r. r.first_lane + r.lanes ≤ count) (along (λ s. length s.lanes) (λ first s. the_segment_row_of first s ∷ []) 0 n.segments)
    segment-bounds count h =
        let a = length-gather (λ (s : Segment N). s.lanes) n.segments in
        along-fits (λ s. length s.lanes) the_segment_row_of (λ r. r.first_lane) (λ r. r.lanes) (λ p s. omega arith) 0 n.segments count (omega arith)

    lane-bounds : Each (LaneBounds (length all-points)) (along lane_size (λ first a. lane_row first a ∷ []) 0 (all_lanes n))
    lane-bounds =
        each_map (λ r. (r.first_point_of + r.points ≤ length all-points) × (WidthBound r.width × (r.left ≤ 4) × (r.right ≤ 4))) (LaneBounds (length all-points))
        (λ r h. record { inside = h.0; width = h.1.0; left = h.1.1; right = h.1.2 }) (along lane_size (λ first a. lane_row first a ∷ []) 0 (all_lanes n))
        (each_both (λ r. r.first_point_of + r.points ≤ length all-points) (λ r. WidthBound r.width × (r.left ≤ 4) × (r.right ≤ 4)) (along lane_size (λ first a. lane_row first a ∷ []) 0 (all_lanes n))
        (along-fits lane_size lane_row (λ r. r.first_point_of) (λ r. r.points) (λ p a. omega arith) 0 (all_lanes n) (length all-points) lanes_end)
        (lane_each (λ r. WidthBound r.width × (r.left ≤ 4) × (r.right ≤ 4)) (λ first a. lane_row first a ∷ [])
        (λ p a g. ((width-bound 0 a.width (each_map (λ w. w ≤ largest) (Between 0 largest) (λ w h. omega arith) (perhaps a.width) g.width), side-bound a.left, side-bound a.right), tt))))

    spot_rows : List SpotRow
    spot_rows = along zone_size (over_spots (λ first s. the_spot_row_of first s ∷ [])) (first_zone_point n) n.zones

    spot-bounds : Each (SpotBounds (length all-points)) spot_rows
    unfolding spot_rows
    spot-bounds =
        each_map (λ r. (suc r.first_point_of < length all-points) × WidthBound r.width) (SpotBounds (length all-points)) (λ r h. record { inside = let k = h.0 in omega arith; width = h.1 }) spot_rows
        (each_both (λ r. suc r.first_point_of < length all-points) (λ r. WidthBound r.width) spot_rows
        (zones_inside (λ r. suc r.first_point_of) (over_spots (λ first s. the_spot_row_of first s ∷ []))
        (each_map GoodZone (Own zone_size (λ r. suc r.first_point_of) (over_spots (λ first s. the_spot_row_of first s ∷ [])))
        (λ z g. over-own (λ r. suc r.first_point_of) (λ first s. the_spot_row_of first s ∷ []) z
        (each_map GoodSpot (Own (λ s. 2) (λ r. suc r.first_point_of) (λ first s. the_spot_row_of first s ∷ [])) (λ s k p. (record { low = omega arith; high = omega arith }, tt)) z.spots g.spots))
        n.zones good.zones))
        (over-each (λ r. WidthBound r.width) (λ first s. the_spot_row_of first s ∷ []) (λ p s g. (width-bound 1 s.width g.width, tt))))

    point-bounds : Each OnEarth all-points
    point-bounds = each_append OnEarth (lane_points n) (gather zone_points n.zones)
        (gather-each OnEarth (λ a. a.points) (all_lanes n) (each_map GoodLane (λ a. Each OnEarth a.points) (λ a g. g.points) (all_lanes n) (good-lanes n good)))
        (gather-each OnEarth zone_points n.zones (each_map GoodZone (λ z. Each OnEarth (zone_points z))
        (λ z g. each_append OnEarth z.border.points (gather spot_points z.spots) g.border.points
        (gather-each OnEarth spot_points z.spots (each_map GoodSpot (λ s. Each OnEarth (spot_points s)) (λ s k. (k.first, (k.second, tt))) z.spots g.spots)))
        n.zones good.zones))

    -- the checkpoints of lanes and of spots
    by-lanes : List CheckpointRow
    by-lanes = along lane_size (λ first a. map (checkpoint_row first) a.checkpoints) 0 (all_lanes n)

    by-spots : List CheckpointRow
    by-spots = along zone_size (over_spots (λ first s. spot_checkpoint first s.checkpoint)) (first_zone_point n) n.zones

    numbers_of : (p v w : ℕ) (cs : List Checkpoint) → Each (GoodCheckpoint v w) cs → Each (λ r. Between 1 largest r.number) (map (checkpoint_row p) cs)
    numbers_of p v w cs e = each-of_map (λ r. Between 1 largest r.number) (checkpoint_row p) cs (each_map (GoodCheckpoint v w) (λ c. Between 1 largest c.number) (λ c g. g.number) cs e)

    checkpoint-bounds : Each (CheckpointBounds (length all-points)) (by-lanes ++ by-spots)
    unfolding by-lanes by-spots
    checkpoint-bounds =
        let o = names-own-points n good in
        each_map (λ r. Between 1 largest r.number × (r.point < length all-points)) (CheckpointBounds (length all-points)) (λ r h. record { number = h.0; inside = h.1 }) (by-lanes ++ by-spots)
        (each_both (λ r. Between 1 largest r.number) (λ r. r.point < length all-points) (by-lanes ++ by-spots)
        (each_append (λ r. Between 1 largest r.number) by-lanes by-spots
        (lane_each (λ r. Between 1 largest r.number) (λ first a. map (checkpoint_row first) a.checkpoints) (λ p a g. numbers_of p 1 (length a.points) a.checkpoints g.checkpoints))
        (subst (λ (f : ℕ → Spot → List CheckpointRow). Each (λ r. Between 1 largest r.number) (along zone_size (over_spots f) (first_zone_point n) n.zones)) (sym spot-marks)
        (over-each (λ r. Between 1 largest r.number) marks (λ p s g. numbers_of p 2 2 (perhaps s.checkpoint) g.checkpoint))))
        (each_append (λ r. r.point < length all-points) by-lanes by-spots
        (lanes-inside (λ r. r.point) (λ first a. map (checkpoint_row first) a.checkpoints) (checkpoints-own n o))
        (zones_inside (λ r. r.point) (over_spots (λ first s. spot_checkpoint first s.checkpoint))
        (subst (λ (f : ℕ → Spot → List CheckpointRow). Each (Own zone_size (λ r. r.point) (over_spots f)) n.zones) (sym spot-marks) (spot-checkpoints-own n o)))))

    exit-bounds : {E : Type 0} (f : PointId → E) → Each (λ r. r.point < length all-points) (along lane_size (λ first a. map (exit_row f first) a.exits) 0 (all_lanes n) ++ along zone_size (λ first z. map (exit_row f first) z.border.exits) (first_zone_point n) n.zones)
    exit-bounds f =
        let o = names-own-points n good in
        each_append (λ r. r.point < length all-points) (along lane_size (λ first a. map (exit_row f first) a.exits) 0 (all_lanes n)) (along zone_size (λ first z. map (exit_row f first) z.border.exits) (first_zone_point n) n.zones)
        (lanes-inside (λ r. r.point) (λ first a. map (exit_row f first) a.exits) (exits-own f n o))
        (zones_inside (λ r. r.point) (λ first z. map (exit_row f first) z.border.exits) (border-exits-own f n o))

    -- THE LAW, for the tables with entries as identifiers and as rows
    pub bounded : {E : Type 0} (f : PointId → E) → Bounded (tables_with f n)
    unfolding tables_with by-lanes by-spots spot_rows
    bounded f =
        let o = names-own-points n good in
        let a = one_each lane_size lane_row 0 (all_lanes n) in
        let d = length-along zone_size (λ z. length z.spots) (over_spots (λ first s. the_spot_row_of first s ∷ [])) (λ p z. one_each (λ s. 2) the_spot_row_of (p + length z.border.points) z.spots) (first_zone_point n) n.zones in
        record {
          segments = segment-bounds (length (tables_with f n).lanes) (omega arith);
          lanes = lane-bounds;
          zones = zones-fit (first_zone_point n) 0 n.zones (length all-points) (length (tables_with f n).spots) zones-end (omega arith);
          spots = spot-bounds;
          points = point-bounds;
          checkpoints = checkpoint-bounds;
          stops = lanes-inside (λ r. r) (λ first a. map (the_row_of first) a.stops) (stops-own n o);
          exits = exit-bounds f;
        }

    -- entries that are still identifiers are in their ranges
    entries-of : (p : ℕ) (es : List Exit) → Each (λ e. GoodEntry e.entry) es → Each (λ r. GoodEntry r.entry) (map (exit_row (λ e. e) p) es)
    entries-of p es e = each-of_map (λ r. GoodEntry r.entry) (exit_row (λ e. e) p) es e

    pub entries-good : Each (λ r. GoodEntry r.entry) (tables_unresolved n).exits
    unfolding tables_with
    entries-good =
        each_append (λ r. GoodEntry r.entry) (along lane_size (λ first a. map (exit_row (λ e. e) first) a.exits) 0 (all_lanes n)) (along zone_size (λ first z. map (exit_row (λ e. e) first) z.border.exits) (first_zone_point n) n.zones)
        (lane_each (λ r. GoodEntry r.entry) (λ first a. map (exit_row (λ e. e) first) a.exits)
        (λ p a g. entries-of p a.exits (each_map (GoodExit (length a.points)) (λ e. GoodEntry e.entry) (λ e k. k.entry) a.exits g.exits)))
        (along-each (λ r. GoodEntry r.entry) zone_size (λ first z. map (exit_row (λ e. e) first) z.border.exits) (first_zone_point n) n.zones
        (each_map GoodZone (λ z. (p : ℕ) → Each (λ r. GoodEntry r.entry) (map (exit_row (λ e. e) p) z.border.exits))
        (λ z g p. entries-of p z.border.exits (each_map (GoodPerimeterExit (length z.border.points)) (λ e. GoodEntry e.entry) (λ e k. record { x = k.x; y = k.y.high; z = k.z }) z.border.exits g.border.exits))
        n.zones good.zones))

    -- entries of a sound network that are looked up are points
    pub entries-inside : Sound n → Each (λ r. r.entry < length (tables n).points) (tables n).exits
    entries-inside sound = (rows_inside n good sound.entries).entries

-- the same of what is spelled
pub spelled-bounded : {N E : Type 0} (f : PointId → E) (n : Network N) (u : List (Statement N)) → SpellsNetwork n u → Bounded (tables_with f n)
spelled-bounded f n u s = bounded n (network_ranges n u s) f

-- ## A mission
pub record MissionBounded {N : Type 0} (m : Mission N) : Type 0 where
  pub goals : Each (Between 1 largest) (mission_tables m).goals
  pub limits : Each GoodLimit (mission_tables m).limits
  pub goal_count : length (mission_tables m).goals ≤ largest
  pub limit_count : length (mission_tables m).limits ≤ largest

pub mission-bounded : {N : Type 0} (m : Mission N) → GoodMission m → MissionBounded m
mission-bounded m good = record { goals = good.goals; limits = good.limits; goal_count = good.some_goals.high; limit_count = good.some_limits.high }

pub spelled-mission-bounded : {N : Type 0} (m : Mission N) (u : List (M.Statement N)) → SpellsMission m u → MissionBounded m
spelled-mission-bounded m u s = mission-bounded m (mission_ranges m u s)
