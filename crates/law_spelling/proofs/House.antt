-- The lines of the law with options as listed are those of the house order. Assumes nothing.
use mathlib.Core.Path.{◌≡◌, refl, sym, ap, ap₂, subst, ◌∙◌}
use mathlib.Core.List.{List, [], ◌∷◌, ◌++◌, map, append-nil}
use Prim.Native.Nat.{ℕ, suc, ◌≤◌}
use native.Mathlib.Omega.{arith}
use lib.ListN.{length}
use Rattle.terms.specs.Words.{Each, perhaps, InTurn, nothing, then}
use Rattle.line.specs.Content.{Field}
use Rattle.law.specs.Network.{Line, Lane, Segment, Perimeter, Spot, Zone, Network, Mission, GoodSpot, GoodMission, points, exit_line}
use Rattle.law.specs.Short.{parted, counted, named, bare}
use Rattle.law.specs.House.{AsListed, house}
use Rattle.law.specs.Network as Law
use Rattle.grammar.specs.Editions.{march}
use Rattle.grammar.specs.Statements.{Statement, say, numbered, point_id, format_version_of, creation_date_of, segment_name_of, end_segment, lane_width_of, left_boundary_of, right_boundary_of, checkpoint, stop, exit, end_lane_of, zone_name_of, end_zone, end_perimeter, spot_width_of, end_spot, end_file_of}
use Rattle.grammar.specs.MissionStatements as M
use Rattle.grammar.specs.Network.{the_checkpoint_of, the_exit_of}
use Rattle.grammar.specs.HouseOrder.{GoodSegment, GoodZone, GoodNetwork, in_turn, house_lane, house_segment, house_perimeter, house_spot, house_zone, house_network, house_mission}
use Rattle.grammar.specs.HouseOrder as H
use Rattle.grammar.proofs.Written.{each_both}
use Rattle.text.specs.RndfLines.{rndf_line_in_of}
use Rattle.text.specs.MdfLines.{the_mdf_line_of}
use Rattle.law_spelling.specs.LineOf.{rndf_law_line, mdf_law_line}
use Rattle.grammar.specs.Network.{GoodLane, GoodPerimeter}
use Rattle.law_spelling.proofs.Ranges.{lane-good-to, lane-good-back, perimeter-good-to, perimeter-good-back}
use Rattle.law_spelling.proofs.Mixing.{map-append, map-map, behind, part_same, parts_same, cons}
use Rattle.law_spelling.proofs.RndfParts.{points-same}
use Rattle.law_spelling.proofs.MdfParts.{lines_with, mission-same}

-- ## As listed
abbrev listed : {A : Type 0} → List (List A) → List A
listed [] = []
listed (l ∷ ls) = l ++ listed ls

only-listed : {A : Type 0} (ls : List (List A)) (l : List A) → AsListed ls l → l ≡ listed ls
only-listed [] l h = h
only-listed (k ∷ ls) l h = h.2 ∙ ap (λ (r : List _). k ++ r) (only-listed ls h.0 h.1)

as-listed : {A : Type 0} (ls : List (List A)) → AsListed ls (listed ls)
as-listed [] = refl
as-listed (k ∷ ls) = (listed ls, as-listed ls, refl)

-- ## Parts one behind the other
module _ {A B P : Type 0} (f : A → B) (Sp : ℕ → P → List B → Type 0) (g : ℕ → P → List A) where
  turn-only : ((i : ℕ) (p : P) (u : List B) → Sp i p u → u ≡ map f (g i p)) → (i : ℕ) (ps : List P) (w : List B) → InTurn Sp i ps w → w ≡ map f (in_turn g i ps)
  turn-only h i [] w nothing = refl
  turn-only h i (p ∷ ps) w (then {u = u} {v = v} s t) = ap₂ (λ (a b : List B). a ++ b) (h i p u s) (turn-only h (suc i) ps v t) ∙ sym (map-append f (g i p) (in_turn g (suc i) ps))

  turn-house : (Good : P → Type 0) → ((i : ℕ) (p : P) → Good p → Sp i p (map f (g i p))) → (i : ℕ) (ps : List P) → Each Good ps → InTurn Sp i ps (map f (in_turn g i ps))
  turn-house Good h i [] e = nothing
  turn-house Good h i (p ∷ ps) e = subst (InTurn Sp i (p ∷ ps)) (sym (map-append f (g i p) (in_turn g (suc i) ps))) (then (h i p e.0) (turn-house Good h (suc i) ps e.1))

turn-good : {B P : Type 0} (Sp : ℕ → P → List B → Type 0) (Good : P → Type 0) → ((i : ℕ) (p : P) (u : List B) → Sp i p u → Good p) → (i : ℕ) (ps : List P) (w : List B) → InTurn Sp i ps w → Each Good ps
turn-good Sp Good h i [] w t = tt
turn-good Sp Good h i (p ∷ ps) w (then {u = u} {v = v} s t) = (h i p u s, turn-good Sp Good h (suc i) ps v t)

abbrev ll : Statement Field → Line
ll = rndf_law_line

-- the last of the options
last : {A : Type 0} (f : A → Statement Field) (l : List A) → map ll (map f l) ≡ map (λ a. ll (f a)) l ++ []
last f l = map-map f ll l ∙ sym (append-nil (map (λ a. ll (f a)) l))

-- ## A lane
lane_options : (m n : ℕ) (a : Lane) → map ll (H.lane_options m n a) ≡ listed (Law.lane_options m n a)
unfolding H.lane_options rndf_line_in_of
lane_options m n a =
    let exits : List (Statement Field) = map (λ e. say exit (the_exit_of m n e)) a.exits in
    let stops : List (Statement Field) = map (λ i. say stop (point_id m n i)) a.stops in
    let checkpoints : List (Statement Field) = map (λ c. say checkpoint (the_checkpoint_of m n c)) a.checkpoints in
    let right : List (Statement Field) = map (say right_boundary_of) (perhaps a.right) in
    let left : List (Statement Field) = map (say left_boundary_of) (perhaps a.left) in
    let width : List (Statement Field) = map (say lane_width_of) (perhaps a.width) in
    behind ll width (left ++ (right ++ (checkpoints ++ (stops ++ exits)))) (map-map (say lane_width_of) ll (perhaps a.width)) (
    behind ll left (right ++ (checkpoints ++ (stops ++ exits))) (map-map (say left_boundary_of) ll (perhaps a.left)) (
    behind ll right (checkpoints ++ (stops ++ exits)) (map-map (say right_boundary_of) ll (perhaps a.right)) (
    behind ll checkpoints (stops ++ exits) (map-map (λ c. say checkpoint (the_checkpoint_of m n c)) ll a.checkpoints) (
    behind ll stops exits (map-map (λ i. say stop (point_id m n i)) ll a.stops) (
    last (λ e. say exit (the_exit_of m n e)) a.exits)))))

lane-lines : (m n : ℕ) (a : Lane) → map ll (house_lane m n a) ≡ parted "lane" m n ∷ counted "num_waypoints" (length a.points) ∷ listed (Law.lane_options m n a) ++ (points m n 1 a.points ++ (bare "end_lane" ∷ []))
unfolding house_lane rndf_line_in_of
lane-lines m n a = cons refl (cons refl (part_same ll (H.lane_options m n a) (numbered m n 1 a.points) (say end_lane_of tt ∷ []) (lane_options m n a) (points-same march m n 1 a.points)))

lane-only : (m n : ℕ) (a : Lane) (l : List Line) → Law.SpellsLane house m n a l → l ≡ map ll (house_lane m n a)
lane-only m n a l h = h.spelled ∙ ap (λ (o : List Line). parted "lane" m n ∷ counted "num_waypoints" (length a.points) ∷ o ++ (points m n 1 a.points ++ (bare "end_lane" ∷ []))) (only-listed (Law.lane_options m n a) h.options h.given) ∙ sym (lane-lines m n a)

lane-house : (m n : ℕ) (a : Lane) → GoodLane a → Law.SpellsLane house m n a (map ll (house_lane m n a))
lane-house m n a g = record { options = listed (Law.lane_options m n a); given = as-listed (Law.lane_options m n a); good = lane-good-to a g; spelled = lane-lines m n a }

-- ## A segment
segment-lines : (m : ℕ) (a : Segment Field) → map ll (house_segment m a) ≡ counted "segment" m ∷ counted "num_lanes" (length a.lanes) ∷ map (named "segment_name") (perhaps a.name) ++ (map ll (in_turn (house_lane m) 1 a.lanes) ++ (bare "end_segment" ∷ []))
unfolding house_segment H.segment_options rndf_line_in_of
segment-lines m a = cons refl (cons refl (part_same ll (H.segment_options a) (in_turn (house_lane m) 1 a.lanes) (say end_segment tt ∷ []) (map-map (say segment_name_of) ll (perhaps a.name)) refl))

segment-only : (m : ℕ) (a : Segment Field) (l : List Line) → Law.SpellsSegment house m a l → l ≡ map ll (house_segment m a)
segment-only m a l h = h.spelled ∙ ap (λ (ls : List Line). counted "segment" m ∷ counted "num_lanes" (length a.lanes) ∷ map (named "segment_name") (perhaps a.name) ++ (ls ++ (bare "end_segment" ∷ []))) (turn-only ll (Law.SpellsLane house m) (house_lane m) (lane-only m) 1 a.lanes h.lanes h.each) ∙ sym (segment-lines m a)

segment-house : (m : ℕ) (a : Segment Field) → GoodSegment a → Law.SpellsSegment house m a (map ll (house_segment m a))
segment-house m a g = record { lanes = map ll (in_turn (house_lane m) 1 a.lanes); count = g.count; each = turn-house ll (Law.SpellsLane house m) (house_lane m) GoodLane (lane-house m) 1 a.lanes g.lanes; spelled = segment-lines m a }

-- ## A perimeter
perimeter-lines : (m : ℕ) (a : Perimeter) → map ll (house_perimeter m a) ≡ parted "perimeter" m 0 ∷ counted "num_perimeterpoints" (length a.points) ∷ map (exit_line m 0) a.exits ++ (points m 0 1 a.points ++ (bare "end_perimeter" ∷ []))
unfolding house_perimeter H.perimeter_options rndf_line_in_of
perimeter-lines m a = cons refl (cons refl (part_same ll (H.perimeter_options m a) (numbered m 0 1 a.points) (say end_perimeter tt ∷ []) (map-map (λ e. say exit (the_exit_of m 0 e)) ll a.exits) (points-same march m 0 1 a.points)))

perimeter-only : (m : ℕ) (a : Perimeter) (l : List Line) → Law.SpellsPerimeter house m a l → l ≡ map ll (house_perimeter m a)
perimeter-only m a l h = h.spelled ∙ sym (perimeter-lines m a)

perimeter-house : (m : ℕ) (a : Perimeter) → GoodPerimeter a → Law.SpellsPerimeter house m a (map ll (house_perimeter m a))
perimeter-house m a g = record { good = perimeter-good-to a g; spelled = perimeter-lines m a }

-- ## A spot
spot_options : (m n : ℕ) (a : Spot) → map ll (H.spot_options m n a) ≡ listed (Law.spot_options m n a)
unfolding H.spot_options rndf_line_in_of
spot_options m n a = behind ll (map (say spot_width_of) (perhaps a.width)) (map (λ c. say checkpoint (the_checkpoint_of m n c)) (perhaps a.checkpoint)) (map-map (say spot_width_of) ll (perhaps a.width)) (last (λ c. say checkpoint (the_checkpoint_of m n c)) (perhaps a.checkpoint))

spot-lines : (m n : ℕ) (a : Spot) → map ll (house_spot m n a) ≡ parted "spot" m n ∷ listed (Law.spot_options m n a) ++ (points m n 1 (a.first ∷ a.second ∷ []) ++ (bare "end_spot" ∷ []))
unfolding house_spot numbered rndf_line_in_of
spot-lines m n a = cons refl (part_same ll (H.spot_options m n a) (numbered m n 1 (a.first ∷ a.second ∷ [])) (say end_spot tt ∷ []) (spot_options m n a) (points-same march m n 1 (a.first ∷ a.second ∷ [])))

spot-only : (m n : ℕ) (a : Spot) (l : List Line) → Law.SpellsSpot house m n a l → l ≡ map ll (house_spot m n a)
spot-only m n a l h = h.spelled ∙ ap (λ (o : List Line). parted "spot" m n ∷ o ++ (points m n 1 (a.first ∷ a.second ∷ []) ++ (bare "end_spot" ∷ []))) (only-listed (Law.spot_options m n a) h.options h.given) ∙ sym (spot-lines m n a)

spot-house : (m n : ℕ) (a : Spot) → GoodSpot a × (1 ≤ length (perhaps a.checkpoint)) → Law.SpellsSpot house m n a (map ll (house_spot m n a))
spot-house m n a g = record { options = listed (Law.spot_options m n a); given = as-listed (Law.spot_options m n a); good = g.0; marked = g.1; spelled = spot-lines m n a }

-- ## A zone
zone-lines : (m : ℕ) (a : Zone Field)
    → map ll (house_zone m a) ≡ counted "zone" m ∷ counted "num_spots" (length a.spots) ∷ map (named "zone_name") (perhaps a.name) ++ (map ll (house_perimeter m a.border) ++ (map ll (in_turn (house_spot m) 1 a.spots) ++ (bare "end_zone" ∷ [])))
unfolding house_zone H.zone_options rndf_line_in_of
zone-lines m a = cons refl (cons refl (parts_same ll (H.zone_options a) (house_perimeter m a.border) (in_turn (house_spot m) 1 a.spots) (say end_zone tt ∷ []) (map-map (say zone_name_of) ll (perhaps a.name)) refl refl))

zone-only : (m : ℕ) (a : Zone Field) (l : List Line) → Law.SpellsZone house m a l → l ≡ map ll (house_zone m a)
zone-only m a l h =
    h.spelled
    ∙ ap₂ (λ (b s : List Line). counted "zone" m ∷ counted "num_spots" (length a.spots) ∷ map (named "zone_name") (perhaps a.name) ++ (b ++ (s ++ (bare "end_zone" ∷ [])))) (perimeter-only m a.border h.border h.bordered) (turn-only ll (Law.SpellsSpot house m) (house_spot m) (spot-only m) 1 a.spots h.spots h.each)
    ∙ sym (zone-lines m a)

zone-house : (m : ℕ) (a : Zone Field) → GoodZone a → Law.SpellsZone house m a (map ll (house_zone m a))
zone-house m a g = record {
  border = map ll (house_perimeter m a.border);
  spots = map ll (in_turn (house_spot m) 1 a.spots);
  count = record { low = omega arith; high = g.count };
  bordered = perimeter-house m a.border g.border;
  each = turn-house ll (Law.SpellsSpot house m) (house_spot m) (λ s. GoodSpot s × (1 ≤ length (perhaps s.checkpoint))) (spot-house m) 1 a.spots (each_both GoodSpot (λ s. 1 ≤ length (perhaps s.checkpoint)) a.spots g.spots g.marked);
  spelled = zone-lines m a;
}

-- ## The file
file_options : (a : Network Field) → map ll (H.file_options a) ≡ listed (Law.file_options a.version a.date)
unfolding H.file_options rndf_line_in_of
file_options a = behind ll (map (say format_version_of) (perhaps a.version)) (map (say creation_date_of) (perhaps a.date)) (map-map (say format_version_of) ll (perhaps a.version)) (last (say creation_date_of) (perhaps a.date))

abbrev file-lines : Network Field → (options segments zones : List Line) → List Line
file-lines a o s z = named "RNDF_name" a.name ∷ counted "num_segments" (length a.segments) ∷ counted "num_zones" (length a.zones) ∷ o ++ (s ++ (z ++ (bare "end_file" ∷ [])))

abbrev house-segments : Network Field → List Line
house-segments a = map ll (in_turn house_segment 1 a.segments)

abbrev house-zones : Network Field → List Line
house-zones a = map ll (in_turn house_zone (suc (length a.segments)) a.zones)

network-lines : (a : Network Field) → map ll (house_network a) ≡ file-lines a (listed (Law.file_options a.version a.date)) (house-segments a) (house-zones a)
unfolding house_network rndf_line_in_of
network-lines a = cons refl (cons refl (cons refl (parts_same ll (H.file_options a) (in_turn house_segment 1 a.segments) (in_turn house_zone (suc (length a.segments)) a.zones) (say end_file_of tt ∷ []) (file_options a) refl refl)))

pub network-house-only : (n : Network Field) (l : List Line) → Law.SpellsNetwork house n l → l ≡ map rndf_law_line (house_network n)
network-house-only a l h =
    let o = only-listed (Law.file_options a.version a.date) h.options h.given in
    let s = turn-only ll (Law.SpellsSegment house) house_segment segment-only 1 a.segments h.segments h.each_segment in
    let z = turn-only ll (Law.SpellsZone house) house_zone zone-only (suc (length a.segments)) a.zones h.zones h.each_zone in
    h.spelled ∙ (λ i. file-lines a (o i) (s i) (z i)) ∙ sym (network-lines a)

pub network-house : (n : Network Field) → GoodNetwork n → Law.SpellsNetwork house n (map rndf_law_line (house_network n))
network-house a g = record {
  options = listed (Law.file_options a.version a.date);
  segments = house-segments a;
  zones = house-zones a;
  given = as-listed (Law.file_options a.version a.date);
  some-segment = g.some-segment;
  count = g.count;
  each_segment = turn-house ll (Law.SpellsSegment house) house_segment GoodSegment segment-house 1 a.segments g.segments;
  each_zone = turn-house ll (Law.SpellsZone house) house_zone GoodZone zone-house (suc (length a.segments)) a.zones g.zones;
  spelled = network-lines a;
}

-- and such a network keeps the ranges
pub network-house-good : (n : Network Field) (l : List Line) → Law.SpellsNetwork house n l → GoodNetwork n
network-house-good a l h = record {
  some-segment = h.some-segment;
  count = h.count;
  segments = turn-good (Law.SpellsSegment house) GoodSegment (λ i a u s. record { count = s.count; lanes = turn-good (Law.SpellsLane house i) GoodLane (λ j a u s. lane-good-back a s.good) 1 a.lanes s.lanes s.each }) 1 a.segments h.segments h.each_segment;
  zones = turn-good (Law.SpellsZone house) GoodZone (λ i a u s. record { count = s.count.high; border = perimeter-good-back a.border s.bordered.good; spots = turn-good (Law.SpellsSpot house i) GoodSpot (λ j a u s. s.good) 1 a.spots s.spots s.each; marked = turn-good (Law.SpellsSpot house i) (λ s. 1 ≤ length (perhaps s.checkpoint)) (λ j a u s. s.marked) 1 a.spots s.spots s.each }) (suc (length a.segments)) a.zones h.zones h.each_zone;
}

-- ## The mission
mission_options : (a : Mission Field) → map mdf_law_line (H.mission_options a) ≡ listed (Law.file_options a.version a.date)
unfolding H.mission_options the_mdf_line_of
mission_options a = behind mdf_law_line (map (M.say M.format_version_of) (perhaps a.version)) (map (M.say M.creation_date_of) (perhaps a.date)) (map-map (M.say M.format_version_of) mdf_law_line (perhaps a.version)) (map-map (M.say M.creation_date_of) mdf_law_line (perhaps a.date) ∙ sym (append-nil (map (named "creation_date") (perhaps a.date))))

mission-lines : (a : Mission Field) → map mdf_law_line (house_mission a) ≡ lines_with a (listed (Law.file_options a.version a.date))
unfolding house_mission
mission-lines a = mission-same a (H.mission_options a) (listed (Law.file_options a.version a.date)) (mission_options a)

pub mission-house-only : (n : Mission Field) (l : List Line) → Law.SpellsMission house n l → l ≡ map mdf_law_line (house_mission n)
mission-house-only a l h = h.spelled ∙ ap (lines_with a) (only-listed (Law.file_options a.version a.date) h.options h.given) ∙ sym (mission-lines a)

pub mission-house : (n : Mission Field) → GoodMission n → Law.SpellsMission house n (map mdf_law_line (house_mission n))
mission-house a g = record { options = listed (Law.file_options a.version a.date); given = as-listed (Law.file_options a.version a.date); good = g; spelled = mission-lines a }
