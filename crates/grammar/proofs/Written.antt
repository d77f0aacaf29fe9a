-- The house order spells every network and mission that keeps the ranges, and what is spelled keeps them. Assumes nothing.
use mathlib.Core.Path.{◌≡◌, refl, ◌∙◌}
use mathlib.Core.List.{List, [], ◌∷◌, ◌++◌, append-nil}
use mathlib.Core.Bool.{true}
use Prim.Native.Nat.{ℕ, suc, ◌≤◌}
use lib.ListN.{length}
use Rattle.terms.specs.Words.{Each, perhaps, InTurn, then}
use Rattle.terms.proofs.Lists.{map-id, each-any}
use Rattle.grammar.specs.Statements.{Statement, lines}
use Rattle.grammar.specs.Editions.{march}
use Rattle.grammar.specs.Network.{under, Lane, Segment, Perimeter, Spot, Zone, Network, GoodLane, GoodPerimeter, GoodSpot, SpellsLane, SpellsSegment, SpellsPerimeter, SpellsSpot, SpellsZone, SpellsNetwork}
use Rattle.grammar.specs.MissionStatements.{orders}
use Rattle.grammar.specs.MissionStatements as M
use Rattle.grammar.specs.Mission.{Mission, GoodMission, SpellsMission}
use Rattle.grammar.specs.HouseOrder.{GoodSegment, GoodZone, GoodNetwork, lane_options, segment_options, perimeter_options, spot_options, zone_options, file_options, mission_options, house_lane, house_segment, house_perimeter, house_spot, house_zone, house_network, house_mission}
use Rattle.grammar.specs.Permitted.{lane_row, segment_row_of, perimeter_row, spot_row_of, zone_row_of, file_row_of}
use Rattle.grammar.specs.MissionPlaces as Mf
use Rattle.grammar.proofs.HouseLaws.{house_as, in-turn_spells}
use Rattle.grammar.proofs.LaneReading.{held, given-lane}

each-good : {A X : Type 0} (Sp : ℕ → A → List X → Type 0) (Good : A → Type 0) → ((i : ℕ) (a : A) (u : List X) → Sp i a u → Good a) → (i : ℕ) (l : List A) (w : List X) → InTurn Sp i l w → Each Good l
each-good Sp Good h i [] w t = tt
each-good Sp Good h i (a ∷ l) w (then {u = u} {v = v} s t) = (h i a u s, each-good Sp Good h (suc i) l v t)

pub each_both : {A : Type 0} (P Q : A → Type 0) (l : List A) → Each P l → Each Q l → Each (λ a. P a × Q a) l
each_both P Q [] p q = tt
each_both P Q (a ∷ l) p q = ((p.0, q.0), each_both P Q l p.1 q.1)

module _ {N : Type 0} where
  spells-lane : (m n : ℕ) (a : Lane) → GoodLane a → SpellsLane {N = N} m n a (house_lane m n a)
  unfolding house_lane lane_options
  spells-lane m n a g =
      let row = lane_row N m n (length a.points) in
      let x = house_as (lines N) row (held (under march true) N a) (lane_options m n a) (simp append-nil) tt (g.width, (each-any (perhaps a.left), (each-any (perhaps a.right), (g.checkpoints, (g.stops, (g.exits, tt)))))) in
      record { options = lane_options m n a; given = (given-lane (under march true) N m n a (lane_options m n a) x g.count g.points).0; good = g; spelled = refl }

  spells-segment : (m : ℕ) (a : (Segment N)) → GoodSegment a → SpellsSegment m a (house_segment m a)
  unfolding house_segment segment_options
  spells-segment m a g =
      let x = house_as (lines N) (segment_row_of N) (a.name, tt) (segment_options a) (simp append-nil) tt (each-any (perhaps a.name), tt) in
      record { options = segment_options a; lanes = _; given = record { name = x.0.0 ∙ map-id (perhaps a.name); no_other = x.1 }; count = g.count; each = in-turn_spells (SpellsLane m) GoodLane (house_lane m) (spells-lane m) 1 a.lanes g.lanes; spelled = refl }

  spells-perimeter : (m : ℕ) (a : Perimeter) → GoodPerimeter a → SpellsPerimeter {N = N} m a (house_perimeter m a)
  unfolding house_perimeter perimeter_options
  spells-perimeter m a g =
      let x = house_as (lines N) (perimeter_row N m (length a.points)) (a.exits, tt) (perimeter_options m a) (simp append-nil) tt (g.exits, tt) in
      record { options = perimeter_options m a; given = record { exits = x.0.0; no_other = x.1 }; good = g; spelled = refl }

  spells-spot : (m n : ℕ) (a : Spot) → GoodSpot a × (1 ≤ length (perhaps a.checkpoint)) → SpellsSpot {N = N} m n a (house_spot m n a)
  unfolding house_spot spot_options
  spells-spot m n a g =
      let x = house_as (lines N) (spot_row_of N m n) (a.width, (a.checkpoint, tt)) (spot_options m n a) (simp append-nil) tt (g.0.width, (g.0.checkpoint, tt)) in
      record { options = spot_options m n a; given = record { width = x.0.0 ∙ map-id (perhaps a.width); checkpoints = x.0.2.0; no_other = x.1 }; good = g.0; marked = g.1; spelled = refl }

  spells-zone : (m : ℕ) (a : (Zone N)) → GoodZone a → SpellsZone m a (house_zone m a)
  unfolding house_zone zone_options
  spells-zone m a g =
      let x = house_as (lines N) (zone_row_of N) (a.name, tt) (zone_options a) (simp append-nil) tt (each-any (perhaps a.name), tt) in
      record {
        options = zone_options a;
        border = _;
        spots = _;
        given = record { name = x.0.0 ∙ map-id (perhaps a.name); no_other = x.1 };
        count = g.count;
        bordered = spells-perimeter m a.border g.border;
        each = in-turn_spells (SpellsSpot m) (λ s. GoodSpot s × (1 ≤ length (perhaps s.checkpoint))) (house_spot m) (spells-spot m) 1 a.spots (each_both GoodSpot (λ s. 1 ≤ length (perhaps s.checkpoint)) a.spots g.spots g.marked);
        spelled = refl;
      }

  pub network-written : (a : (Network N)) → GoodNetwork a → SpellsNetwork a (house_network a)
  unfolding house_network file_options
  network-written a g =
      let x = house_as (lines N) (file_row_of N) (a.version, (a.date, tt)) (file_options a) (simp append-nil) tt (each-any (perhaps a.version), (each-any (perhaps a.date), tt)) in
      record {
        options = file_options a;
        segments = _;
        zones = _;
        given = record { version = x.0.0 ∙ map-id (perhaps a.version); date = x.0.2.0 ∙ map-id (perhaps a.date); no_other = x.1 };
        some-segment = g.some-segment;
        count = g.count;
        each_segment = in-turn_spells SpellsSegment GoodSegment house_segment spells-segment 1 a.segments g.segments;
        each_zone = in-turn_spells SpellsZone GoodZone house_zone spells-zone (suc (length a.segments)) a.zones g.zones;
        spelled = refl;
      }

  pub mission-written : (a : (Mission N)) → GoodMission a → SpellsMission a (house_mission a)
  unfolding house_mission mission_options
  mission-written a g =
      let x = house_as (orders N) (Mf.file_row_of N) (a.version, (a.date, tt)) (mission_options a) (simp append-nil) tt (each-any (perhaps a.version), (each-any (perhaps a.date), tt)) in
      record { options = mission_options a; given = record { version = x.0.0 ∙ map-id (perhaps a.version); date = x.0.2.0 ∙ map-id (perhaps a.date); no_other = x.1 }; good = g; spelled = refl }

  -- ## What is spelled keeps the ranges
  pub network-good : (a : (Network N)) (l : List (Statement N)) → SpellsNetwork a l → GoodNetwork a
  network-good a l s = record {
    some-segment = s.some-segment;
    count = s.count;
    segments = each-good SpellsSegment GoodSegment (λ i a u s. record { count = s.count; lanes = each-good (SpellsLane i) GoodLane (λ i a u s. s.good) 1 a.lanes s.lanes s.each }) 1 a.segments s.segments s.each_segment;
    zones = each-good SpellsZone GoodZone (λ i a u s. record { count = s.count; border = s.bordered.good; spots = each-good (SpellsSpot i) GoodSpot (λ i a u s. s.good) 1 a.spots s.spots s.each; marked = each-good (SpellsSpot i) (λ s. 1 ≤ length (perhaps s.checkpoint)) (λ i a u s. s.marked) 1 a.spots s.spots s.each }) (suc (length a.segments)) a.zones s.zones s.each_zone;
  }

  pub mission-good : (a : Mission N) (l : List (M.Statement N)) → SpellsMission a l → GoodMission a
  mission-good a l s = s.good
