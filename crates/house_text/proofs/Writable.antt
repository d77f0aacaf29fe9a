-- Every statement of a network, or of a mission, that keeps the ranges and whose names are names can be written. Assumes nothing.
use mathlib.Core.Path.{refl}
use mathlib.Core.List.{List, [], ◌∷◌, ◌++◌, map}
use Prim.Native.Nat.{ℕ, suc, ◌+◌, ◌≤◌}
use native.Mathlib.Omega.{arith}
use lib.ListN.{length}
use lib.IntN.{nat_abs}
use Rattle.terms.specs.Words.{Each, perhaps, Between}
use Rattle.terms.proofs.Lists.{each-any, each_map, each_append}
use Rattle.line.specs.Content.{Field, IsField}
use Rattle.word.specs.Keywords.{rndf_keywords, mdf_keywords}
use Rattle.grammar.specs.Statements.{Kind, Says, Statement, Position, say, point_id, point_line_of, numbered, RNDF_name_of, num_segments, num_zones, format_version_of, creation_date_of, segment, num_lanes, segment_name_of, end_segment, lane, num_waypoints, lane_width_of, left_boundary_of, right_boundary_of, checkpoint, stop, exit, end_lane_of, zone, num_spots, zone_name_of, end_zone, perimeter, num_perimeterpoints, end_perimeter, spot, spot_width_of, end_spot, end_file_of, point}
use Rattle.grammar.specs.MissionStatements as M
use Rattle.grammar.specs.Network.{largest, Checkpoint, Exit, Lane, Segment, Perimeter, Spot, Zone, Network, the_checkpoint_of, the_exit_of, OnEarth, GoodCheckpoint, GoodExit, GoodPerimeterExit, GoodLane, GoodPerimeter, GoodSpot}
use Rattle.grammar.specs.Mission.{Mission, GoodLimit, GoodMission}
use Rattle.grammar.specs.HouseOrder.{GoodSegment, GoodZone, GoodNetwork, in_turn, lane_options, house_lane, segment_options, house_segment, perimeter_options, house_perimeter, spot_options, house_spot, zone_options, house_zone, file_options, house_network, mission_options, house_mission}
use Rattle.grammar.proofs.Rows.{each-of_map, each_both}
use Rattle.text.specs.RndfLines.{rndf_line_in_of, the_rndf_line_of}
use Rattle.text.specs.MdfLines.{the_mdf_line_of}
use Rattle.text.proofs.RndfText.{kw}
use Rattle.text.proofs.MdfText.{kw as kw-m}
use Rattle.house_text.specs.Names.{IsName, NetworkNames, MissionNames}
use Rattle.house_text.proofs.Lines.{CanWrite}

-- ## Lists
-- parts numbered from i, none above a bound
turn-each : {A X : Type 0} (P : X → Type 0) (Good : A → Type 0) (f : ℕ → A → List X) (bound : ℕ) → ((i : ℕ) (a : A) → i ≤ bound → Good a → Each P (f i a))
    → (i : ℕ) (l : List A) → i + length l ≤ suc bound → Each Good l → Each P (in_turn f i l)
turn-each P Good f bound h i [] b g = tt
turn-each P Good f bound h i (a ∷ l) b g = each_append P (f i a) (in_turn f (suc i) l) (h i a (omega arith) g.0) (turn-each P Good f bound h (suc i) l (omega arith) g.1)

-- every one of a list, as a record, so that the list is known from what is said of it
record Every {A : Type 0} (P : A → Type 0) (l : List A) : Type 0 where
  each : Each P l

joined : {A : Type 0} {P : A → Type 0} {x y : List A} → Every P x → Every P y → Every P (x ++ y)
joined {P = P} {x = x} {y = y} a b = record { each = each_append P x y a.each b.each }

-- what each of some values gives
said_each : {A X : Type 0} (P : X → Type 0) (Good : A → Type 0) (g : A → X) → ((a : A) → Good a → P (g a)) → (l : List A) → Each Good l → Every P (map g l)
said_each P Good g h l e = record { each = each-of_map P g l (each_map Good (λ a. P (g a)) h l e) }

name-written : (f : Field) → IsName f → IsField f.bytes × (length f.bytes ≤ 128)
name-written f h = (h.is_field, h.long.high)

-- ## RNDF
-- what a statement that can be written says
abbrev InRange : (k : Kind) → Says Field k → Type 0
InRange RNDF_name_of v = IsName v
InRange num_segments n = n ≤ 99999
InRange num_zones n = n ≤ 99999
InRange format_version_of v = IsName v
InRange creation_date_of v = IsName v
InRange segment m = m ≤ 99999
InRange num_lanes n = n ≤ 99999
InRange segment_name_of v = IsName v
InRange end_segment v = Unit {0}
InRange lane i = (i.m ≤ 99999) × (i.n ≤ 99999)
InRange num_waypoints n = n ≤ 99999
InRange lane_width_of n = n ≤ 99999
InRange left_boundary_of b = Unit {0}
InRange right_boundary_of b = Unit {0}
InRange checkpoint c = ((c.waypoint.x ≤ 99999) × (c.waypoint.y ≤ 99999) × (c.waypoint.z ≤ 99999)) × (c.number ≤ 99999)
InRange stop i = (i.x ≤ 99999) × (i.y ≤ 99999) × (i.z ≤ 99999)
InRange exit e = ((e.waypoint.x ≤ 99999) × (e.waypoint.y ≤ 99999) × (e.waypoint.z ≤ 99999)) × ((e.entry.x ≤ 99999) × (e.entry.y ≤ 99999) × (e.entry.z ≤ 99999))
InRange end_lane_of v = Unit {0}
InRange zone m = m ≤ 99999
InRange num_spots n = n ≤ 99999
InRange zone_name_of v = IsName v
InRange end_zone v = Unit {0}
InRange perimeter i = (i.m ≤ 99999) × (i.n ≤ 99999)
InRange num_perimeterpoints n = n ≤ 99999
InRange end_perimeter v = Unit {0}
InRange spot i = (i.m ≤ 99999) × (i.n ≤ 99999)
InRange spot_width_of n = n ≤ 99999
InRange end_spot v = Unit {0}
InRange end_file_of v = Unit {0}
InRange point p = ((p.id.x ≤ 99999) × (p.id.y ≤ 99999) × (p.id.z ≤ 99999)) × (nat_abs p.position.latitude ≤ 999999999) × (nat_abs p.position.longitude ≤ 999999999)

in-range : (k : Kind) (v : Says Field k) → InRange k v → CanWrite the_rndf_line_of (say k v)
unfolding rndf_line_in_of rndf_keywords
in-range RNDF_name_of v h = (kw 0 (omega arith), (name-written v h, tt))
in-range num_segments v h = (kw 1 (omega arith), (h, tt))
in-range num_zones v h = (kw 2 (omega arith), (h, tt))
in-range format_version_of v h = (kw 3 (omega arith), (name-written v h, tt))
in-range creation_date_of v h = (kw 4 (omega arith), (name-written v h, tt))
in-range segment v h = (kw 5 (omega arith), (h, tt))
in-range num_lanes v h = (kw 6 (omega arith), (h, tt))
in-range segment_name_of v h = (kw 7 (omega arith), (name-written v h, tt))
in-range end_segment v h = (kw 8 (omega arith), tt)
in-range lane v h = (kw 9 (omega arith), (h, tt))
in-range num_waypoints v h = (kw 10 (omega arith), (h, tt))
in-range lane_width_of v h = (kw 11 (omega arith), (h, tt))
in-range left_boundary_of v h = (kw 12 (omega arith), (refl, tt))
in-range right_boundary_of v h = (kw 13 (omega arith), (refl, tt))
in-range checkpoint v h = (kw 14 (omega arith), (h.0, (h.1, tt)))
in-range stop v h = (kw 15 (omega arith), (h, tt))
in-range exit v h = (kw 16 (omega arith), (h.0, (h.1, tt)))
in-range end_lane_of v h = (kw 17 (omega arith), tt)
in-range zone v h = (kw 18 (omega arith), (h, tt))
in-range num_spots v h = (kw 19 (omega arith), (h, tt))
in-range zone_name_of v h = (kw 20 (omega arith), (name-written v h, tt))
in-range end_zone v h = (kw 21 (omega arith), tt)
in-range perimeter v h = (kw 22 (omega arith), (h, tt))
in-range num_perimeterpoints v h = (kw 23 (omega arith), (h, tt))
in-range end_perimeter v h = (kw 24 (omega arith), tt)
in-range spot v h = (kw 25 (omega arith), (h, tt))
in-range spot_width_of v h = (kw 26 (omega arith), (h, tt))
in-range end_spot v h = (kw 27 (omega arith), tt)
in-range end_file_of v h = (kw 28 (omega arith), tt)
in-range point v h = (h.0, (h.1, (h.2, tt)))

abbrev R : Statement Field → Type 0
R s = InRange s.kind s.val

-- the points m.n.i, m.n.i+1, ..
points-range : (m n i : ℕ) → m ≤ largest → n ≤ largest → (ps : List Position) → i + length ps ≤ 32769 → Each OnEarth ps → Each R (numbered m n i ps)
unfolding numbered
points-range m n i hm hn [] b e = tt
points-range m n i hm hn (p ∷ ps) b e =
    let a = e.0.latitude in
    let o = e.0.longitude in
    (((omega arith, omega arith, omega arith), omega arith, omega arith), points-range m n (suc i) hm hn ps (omega arith) e.1)

checkpoint-range : (m n v w : ℕ) → m ≤ largest → n ≤ largest → w ≤ largest → (c : Checkpoint) → GoodCheckpoint v w c → R (say checkpoint (the_checkpoint_of m n c))
checkpoint-range m n v w hm hn hw c g = let a = g.waypoint.high in let b = g.number.high in ((omega arith, omega arith, omega arith), omega arith)

stop-range : (m n w : ℕ) → m ≤ largest → n ≤ largest → w ≤ largest → (i : ℕ) → Between 1 w i → R (say stop (point_id m n i))
stop-range m n w hm hn hw i g = let a = g.high in (omega arith, omega arith, omega arith)

exit-range : (m n w : ℕ) → m ≤ largest → n ≤ largest → w ≤ largest → (e : Exit) → GoodExit w e → R (say exit (the_exit_of m n e))
exit-range m n w hm hn hw e g =
    let a = g.waypoint.high in
    let x = g.entry.x.high in
    let y = g.entry.y in
    let z = g.entry.z.high in
    ((omega arith, omega arith, omega arith), (omega arith, omega arith, omega arith))

border-exit-range : (m w : ℕ) → m ≤ largest → w ≤ largest → (e : Exit) → GoodPerimeterExit w e → R (say exit (the_exit_of m 0 e))
border-exit-range m w hm hw e g =
    let a = g.waypoint.high in
    let x = g.x.high in
    let y = g.y.high in
    let z = g.z.high in
    ((omega arith, omega arith, omega arith), (omega arith, omega arith, omega arith))

lane-range : (m n : ℕ) → m ≤ largest → n ≤ largest → (a : Lane) → GoodLane a → Each R (house_lane m n a)
unfolding house_lane lane_options
lane-range m n hm hn a g =
    let w = length a.points in
    let c = g.count.high in
    let widths = said_each R (λ w. w ≤ largest) (say lane_width_of) (λ w h. omega arith) (perhaps a.width) g.width in
    let lefts = said_each R (λ b. Unit {0}) (say left_boundary_of) (λ b h. tt) (perhaps a.left) (each-any (perhaps a.left)) in
    let rights = said_each R (λ b. Unit {0}) (say right_boundary_of) (λ b h. tt) (perhaps a.right) (each-any (perhaps a.right)) in
    let checkpoints = said_each R (GoodCheckpoint 1 w) (λ c. say checkpoint (the_checkpoint_of m n c)) (checkpoint-range m n 1 w hm hn c) a.checkpoints g.checkpoints in
    let stops = said_each R (Between 1 w) (λ i. say stop (point_id m n i)) (stop-range m n w hm hn c) a.stops g.stops in
    let exits = said_each R (GoodExit w) (λ e. say exit (the_exit_of m n e)) (exit-range m n w hm hn c) a.exits g.exits in
    let options : Every R (lane_options m n a) = joined widths (joined lefts (joined rights (joined checkpoints (joined stops exits)))) in
    let points = points-range m n 1 hm hn a.points (omega arith) g.points in
    ((omega arith, omega arith), (omega arith, each_append R (lane_options m n a) (numbered m n 1 a.points ++ (say end_lane_of tt ∷ [])) options.each (each_append R (numbered m n 1 a.points) (say end_lane_of tt ∷ []) points (tt, tt))))

segment-range : (m : ℕ) (a : Segment Field) → m ≤ largest → GoodSegment a × Each IsName (perhaps a.name) → Each R (house_segment m a)
unfolding house_segment segment_options
segment-range m a hm g =
    let c = g.0.count.high in
    let names = said_each R IsName (say segment_name_of) (λ f h. h) (perhaps a.name) g.1 in
    let lanes = turn-each R GoodLane (house_lane m) largest (λ n a hn g. lane-range m n hm hn a g) 1 a.lanes (omega arith) g.0.lanes in
    (omega arith, (omega arith, each_append R (segment_options a) (in_turn (house_lane m) 1 a.lanes ++ (say end_segment tt ∷ [])) names.each (each_append R (in_turn (house_lane m) 1 a.lanes) (say end_segment tt ∷ []) lanes (tt, tt))))

perimeter-range : (m : ℕ) → m ≤ largest → (a : Perimeter) → GoodPerimeter a → Each R (house_perimeter m a)
unfolding house_perimeter perimeter_options
perimeter-range m hm a g =
    let w = length a.points in
    let c = g.count.high in
    let exits = said_each R (GoodPerimeterExit w) (λ e. say exit (the_exit_of m 0 e)) (border-exit-range m w hm c) a.exits g.exits in
    let points = points-range m 0 1 hm (omega arith) a.points (omega arith) g.points in
    ((omega arith, omega arith), (omega arith, each_append R (perimeter_options m a) (numbered m 0 1 a.points ++ (say end_perimeter tt ∷ [])) exits.each (each_append R (numbered m 0 1 a.points) (say end_perimeter tt ∷ []) points (tt, tt))))

spot-range : (m n : ℕ) → m ≤ largest → n ≤ largest → (a : Spot) → GoodSpot a → Each R (house_spot m n a)
unfolding house_spot spot_options
spot-range m n hm hn a g =
    let widths = said_each R (Between 1 largest) (say spot_width_of) (λ w h. let b = h.high in omega arith) (perhaps a.width) g.width in
    let checkpoints = said_each R (GoodCheckpoint 2 2) (λ c. say checkpoint (the_checkpoint_of m n c)) (checkpoint-range m n 2 2 hm hn (omega arith)) (perhaps a.checkpoint) g.checkpoint in
    let p = g.first.latitude in
    let q = g.first.longitude in
    let s = g.second.latitude in
    let t = g.second.longitude in
    let options : Every R (spot_options m n a) = joined widths checkpoints in (
      (omega arith, omega arith),
      each_append R (spot_options m n a) (point_line_of (point_id m n 1) a.first ∷ point_line_of (point_id m n 2) a.second ∷ say end_spot tt ∷ []) options.each
          (((omega arith, omega arith, omega arith), omega arith, omega arith), (((omega arith, omega arith, omega arith), omega arith, omega arith), (tt, tt))),
    )

zone-range : (m : ℕ) (a : Zone Field) → m ≤ largest → GoodZone a × Each IsName (perhaps a.name) → Each R (house_zone m a)
unfolding house_zone zone_options
zone-range m a hm g =
    let c = g.0.count in
    let names = said_each R IsName (say zone_name_of) (λ f h. h) (perhaps a.name) g.1 in
    let spots = turn-each R GoodSpot (house_spot m) largest (λ n a hn g. spot-range m n hm hn a g) 1 a.spots (omega arith) g.0.spots in
    let rest : Each R (in_turn (house_spot m) 1 a.spots ++ (say end_zone tt ∷ [])) = each_append R (in_turn (house_spot m) 1 a.spots) (say end_zone tt ∷ []) spots (tt, tt) in
    let border = perimeter-range m hm a.border g.0.border in (
      omega arith,
      (
        omega arith,
        each_append R (zone_options a) (house_perimeter m a.border ++ (in_turn (house_spot m) 1 a.spots ++ (say end_zone tt ∷ []))) names.each
            (each_append R (house_perimeter m a.border) (in_turn (house_spot m) 1 a.spots ++ (say end_zone tt ∷ [])) border rest),
      ),
    )

network-range : (a : Network Field) → GoodNetwork a → NetworkNames a → Each R (house_network a)
unfolding house_network file_options
network-range a g ns =
    let c = g.count in
    let versions = said_each R IsName (say format_version_of) (λ f h. h) (perhaps a.version) ns.version in
    let dates = said_each R IsName (say creation_date_of) (λ f h. h) (perhaps a.date) ns.date in
    let segments = turn-each R (λ s. GoodSegment s × Each IsName (perhaps s.name)) house_segment largest segment-range 1 a.segments (omega arith) (each_both GoodSegment (λ s. Each IsName (perhaps s.name)) a.segments g.segments ns.segments) in
    let zones = turn-each R (λ z. GoodZone z × Each IsName (perhaps z.name)) house_zone largest zone-range (suc (length a.segments)) a.zones (omega arith) (each_both GoodZone (λ z. Each IsName (perhaps z.name)) a.zones g.zones ns.zones) in
    let options : Every R (file_options a) = joined versions dates in
    let ss = in_turn house_segment 1 a.segments in
    let zs = in_turn house_zone (suc (length a.segments)) a.zones in
    (ns.name, (omega arith, (omega arith, each_append R (file_options a) (ss ++ (zs ++ (say end_file_of tt ∷ []))) options.each (each_append R ss (zs ++ (say end_file_of tt ∷ [])) segments (each_append R zs (say end_file_of tt ∷ []) zones (tt, tt))))))

-- THE LAW
pub network_writable : (a : Network Field) → GoodNetwork a → NetworkNames a → Each (CanWrite the_rndf_line_of) (house_network a)
network_writable a g ns = each_map R (CanWrite the_rndf_line_of) (λ s h. in-range s.kind s.val h) (house_network a) (network-range a g ns)

-- ## MDF
abbrev InRange-m : (k : M.Kind) → M.Says Field k → Type 0
InRange-m M.MDF_name_of v = IsName v
InRange-m M.RNDF v = IsName v
InRange-m M.format_version_of v = IsName v
InRange-m M.creation_date_of v = IsName v
InRange-m M.checkpoints v = Unit {0}
InRange-m M.num_checkpoints n = n ≤ 99999
InRange-m M.end_checkpoints v = Unit {0}
InRange-m M.speed_limits v = Unit {0}
InRange-m M.num_speed_limits n = n ≤ 99999
InRange-m M.end_speed_limits v = Unit {0}
InRange-m M.end_file_of v = Unit {0}
InRange-m M.goal n = n ≤ 99999
InRange-m M.limit a = (a.id ≤ 99999) × (a.minimum ≤ 99999) × (a.maximum ≤ 99999)

in-range-m : (k : M.Kind) (v : M.Says Field k) → InRange-m k v → CanWrite the_mdf_line_of (M.say k v)
unfolding the_mdf_line_of mdf_keywords
in-range-m M.MDF_name_of v h = (kw-m 0 (omega arith), (name-written v h, tt))
in-range-m M.RNDF v h = (kw-m 1 (omega arith), (name-written v h, tt))
in-range-m M.format_version_of v h = (kw-m 2 (omega arith), (name-written v h, tt))
in-range-m M.creation_date_of v h = (kw-m 3 (omega arith), (name-written v h, tt))
in-range-m M.checkpoints v h = (kw-m 4 (omega arith), tt)
in-range-m M.num_checkpoints v h = (kw-m 5 (omega arith), (h, tt))
in-range-m M.end_checkpoints v h = (kw-m 6 (omega arith), tt)
in-range-m M.speed_limits v h = (kw-m 7 (omega arith), tt)
in-range-m M.num_speed_limits v h = (kw-m 8 (omega arith), (h, tt))
in-range-m M.end_speed_limits v h = (kw-m 9 (omega arith), tt)
in-range-m M.end_file_of v h = (kw-m 10 (omega arith), tt)
in-range-m M.goal v h = (h, tt)
in-range-m M.limit v h = (h.0, (h.1, (h.2, tt)))

abbrev R-m : M.Statement Field → Type 0
R-m s = InRange-m s.kind s.val

mission-range : (a : Mission Field) → GoodMission a → MissionNames a → Each R-m (house_mission a)
unfolding house_mission mission_options
mission-range a g ns =
    let c = g.some_goals.high in
    let d = g.some_limits.high in
    let versions = said_each R-m IsName (M.say M.format_version_of) (λ f h. h) (perhaps a.version) ns.version in
    let dates = said_each R-m IsName (M.say M.creation_date_of) (λ f h. h) (perhaps a.date) ns.date in
    let goals = said_each R-m (Between 1 largest) (M.say M.goal) (λ n h. let b = h.high in omega arith) a.goals g.goals in
    let limits = said_each R-m GoodLimit (M.say M.limit) (λ l h. let i = h.id.high in let s = h.minimum in let t = h.maximum in (omega arith, omega arith, omega arith)) a.limits g.limits in
    let options : Every R-m (mission_options a) = joined versions dates in
    let last : List (M.Statement Field) = M.say M.end_speed_limits tt ∷ M.say M.end_file_of tt ∷ [] in
    let middle : List (M.Statement Field) = M.say M.end_checkpoints tt ∷ M.say M.speed_limits tt ∷ M.say M.num_speed_limits (length a.limits) ∷ map (M.say M.limit) a.limits ++ last in
    let most : List (M.Statement Field) = M.say M.checkpoints tt ∷ M.say M.num_checkpoints (length a.goals) ∷ map (M.say M.goal) a.goals ++ middle in
    let ends : Each R-m last = (tt, (tt, tt)) in
    let later : Each R-m middle = (tt, (tt, (omega arith, each_append R-m (map (M.say M.limit) a.limits) last limits.each ends))) in
    (ns.name, (ns.rndf, each_append R-m (mission_options a) most options.each (tt, (omega arith, each_append R-m (map (M.say M.goal) a.goals) middle goals.each later))))

pub mission_writable : (a : Mission Field) → GoodMission a → MissionNames a → Each (CanWrite the_mdf_line_of) (house_mission a)
mission_writable a g ns = each_map R-m (CanWrite the_mdf_line_of) (λ s h. in-range-m s.kind s.val h) (house_mission a) (mission-range a g ns)
