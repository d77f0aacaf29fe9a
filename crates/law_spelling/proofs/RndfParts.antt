-- The statements of a network and the lines of the law are the same, part by part. Assumes nothing.
use mathlib.Core.Path.{◌≡◌, refl, sym, ap, ◌∙◌}
use mathlib.Core.List.{List, [], ◌∷◌, ◌++◌, map}
use mathlib.Core.Bool.{Bool, true}
use Prim.Native.Nat.{ℕ, suc}
use native.Mathlib.Omega.{arith}
use lib.ListN.{length}
use Rattle.terms.specs.Words.{perhaps, Between}
use Rattle.line.specs.Content.{Field}
use Rattle.law.specs.Network.{Line, Position, Lane, Segment, Perimeter, Spot, Zone, Network, AnyOrder, Rules, reading, present, points}
use Rattle.law.specs.Network as Law
use Rattle.grammar.specs.Editions.{Edition, march, december, law_of, Enough}
use Rattle.grammar.specs.Statements.{Statement, Kind, lines, say, numbered, part_id, point_id, RNDF_name_of, num_segments, num_zones, format_version_of, creation_date_of, segment, num_lanes, segment_name_of, end_segment, lane, num_waypoints, lane_width_of, left_boundary_of, right_boundary_of, checkpoint, stop, exit, end_lane_of, zone, num_spots, zone_name_of, end_zone, perimeter, num_perimeterpoints, end_perimeter, spot, spot_width_of, end_spot, end_file_of}
use Rattle.grammar.specs.Network.{the_checkpoint_of, the_exit_of, SpellsLane, SpellsSegment, SpellsPerimeter, under, least, SpellsSpotBy, SpellsZoneBy, SpellsNetworkBy, SpellsNetwork}
use Rattle.text.specs.RndfLines.{rndf_line_in_of}
use Rattle.law_spelling.specs.LineOf.{rndf_law_line_in, rndf_law_line}
use Rattle.law_spelling.proofs.Ranges.{lane-good-to, lane-good-back, perimeter-good-to, perimeter-good-back}
use Rattle.law_spelling.proofs.Mixing.{map-map, map-twice, part_same, parts_same, cons, turn-to, turn-back}
use Rattle.law_spelling.proofs.Options.{Values, options, options-to, options-back, only_one, one_only}

-- the rules of the law in an edition, with L8's and without: `reading` and `lenient reading`
abbrev pub rules-by : Edition → Bool → Rules
rules-by e strict = record { separates = present.separates; Options = present.Options; spot_checkpoints = least strict; edition = law_of e }

abbrev Said : Type 0
Said = List (Statement Field)

abbrev ll : Edition → Statement Field → Line
ll = rndf_law_line_in

-- the lines that a part of the law has are those of statements that spell the part
abbrev Back : Edition → {P : Type 0} → (P → Said → Type 0) → P → List Line → Type 0
Back e Sp a l = (said : Said) × (l ≡ map (ll e) said) × Sp a said

-- ## Points
pub points-same : (e : Edition) (m n i : ℕ) (ps : List Position) → map (ll e) (numbered m n i ps) ≡ points m n i ps
unfolding numbered points rndf_line_in_of
points-same e m n i [] = refl
points-same e m n i (p ∷ ps) = cons refl (points-same e m n (suc i) ps)

-- ## A lane
abbrev lane-kinds : List Kind
lane-kinds = lane_width_of ∷ left_boundary_of ∷ right_boundary_of ∷ checkpoint ∷ stop ∷ exit ∷ []

abbrev lane-values : (m n : ℕ) → Lane → Values (lines Field) lane-kinds
lane-values m n a = (perhaps a.width, (perhaps a.left, (perhaps a.right, (map (the_checkpoint_of m n) a.checkpoints, (map (point_id m n) a.stops, (map (the_exit_of m n) a.exits, tt))))))

pub lane-same : (e : Edition) (m n : ℕ) (a : Lane) → map (map (ll e)) (options (lines Field) lane-kinds (lane-values m n a)) ≡ Law.lane_options m n a
unfolding rndf_line_in_of
lane-same e m n a =
    cons (map-map (say lane_width_of) (ll e) (perhaps a.width)) (
    cons (map-map (say left_boundary_of) (ll e) (perhaps a.left)) (
    cons (map-map (say right_boundary_of) (ll e) (perhaps a.right)) (
    cons (map-twice (the_checkpoint_of m n) (say checkpoint) (ll e) a.checkpoints) (
    cons (map-twice (point_id m n) (say stop) (ll e) a.stops) (
    cons (map-twice (the_exit_of m n) (say exit) (ll e) a.exits) refl)))))

lane-to : (e : Edition) (strict : Bool) (m n : ℕ) (a : Lane) (l : Said) → SpellsLane m n a l → Law.SpellsLane (rules-by e strict) m n a (map (ll e) l)
unfolding rndf_line_in_of
lane-to e strict m n a l h =
    let g = h.given in
    record {
      options = map (ll e) h.options;
      given = options-to (lines Field) (ll e) lane-kinds (lane-values m n a) (Law.lane_options m n a) h.options tt (lane-same e m n a) (g.width, (g.left, (g.right, (g.checkpoints, (g.stops, (g.exits, tt)))))) g.no_other;
      good = lane-good-to a h.good;
      spelled = ap (map (ll e)) h.spelled ∙ cons refl (cons refl (part_same (ll e) h.options (numbered m n 1 a.points) (say end_lane_of tt ∷ []) refl (points-same e m n 1 a.points)));
    }

lane-back : (e : Edition) (strict : Bool) (m n : ℕ) (a : Lane) (l : List Line) → Law.SpellsLane (rules-by e strict) m n a l → Back e (SpellsLane m n) a l
unfolding rndf_line_in_of
lane-back e strict m n a l h =
    let x = options-back (lines Field) (ll e) lane-kinds (lane-values m n a) (Law.lane_options m n a) h.options tt (lane-same e m n a) h.given in
    let y = x.2 in (
      say lane (part_id m n) ∷ say num_waypoints (length a.points) ∷ x.0 ++ (numbered m n 1 a.points ++ (say end_lane_of tt ∷ [])),
      h.spelled ∙ cons refl (cons refl (sym (part_same (ll e) x.0 (numbered m n 1 a.points) (say end_lane_of tt ∷ []) (sym x.1) (points-same e m n 1 a.points)))),
      record {
        options = x.0;
        given = record { width = y.0; left = y.1.0; right = y.1.1.0; checkpoints = y.1.1.1.0; stops = y.1.1.1.1.0; exits = y.1.1.1.1.1.0; no_other = x.3 };
        good = lane-good-back a h.good;
        spelled = refl;
      },
    )

-- ## A segment
segment-to : (e : Edition) (strict : Bool) (m : ℕ) (a : Segment Field) (l : Said) → SpellsSegment m a l → Law.SpellsSegment (rules-by e strict) m a (map (ll e) l)
unfolding rndf_line_in_of
segment-to e strict m a l h =
    let o : h.options ≡ map (say segment_name_of) (perhaps a.name) = only_one (lines Field) segment_name_of (perhaps a.name) h.options h.given.name h.given.no_other in
    record {
      lanes = map (ll e) h.lanes;
      count = h.count;
      each = turn-to (ll e) (SpellsLane m) (Law.SpellsLane (rules-by e strict) m) (lane-to e strict m) 1 a.lanes h.lanes h.each;
      spelled = ap (map (ll e)) h.spelled ∙ cons refl (cons refl (part_same (ll e) h.options h.lanes (say end_segment tt ∷ []) (ap (map (ll e)) o ∙ map-map (say segment_name_of) (ll e) (perhaps a.name)) refl));
    }

segment-back : (e : Edition) (strict : Bool) (m : ℕ) (a : Segment Field) (l : List Line) → Law.SpellsSegment (rules-by e strict) m a l → Back e (SpellsSegment m) a l
unfolding rndf_line_in_of
segment-back e strict m a l h =
    let os = map (say segment_name_of) (perhaps a.name) in
    let g = one_only (lines Field) segment_name_of (perhaps a.name) in
    let x = turn-back (ll e) (SpellsLane m) (Law.SpellsLane (rules-by e strict) m) (lane-back e strict m) 1 a.lanes h.lanes h.each in (
      say segment m ∷ say num_lanes (length a.lanes) ∷ os ++ (x.0 ++ (say end_segment tt ∷ [])),
      h.spelled ∙ cons refl (cons refl (sym (part_same (ll e) os x.0 (say end_segment tt ∷ []) (map-map (say segment_name_of) (ll e) (perhaps a.name)) (sym x.1)))),
      record { options = os; lanes = x.0; given = record { name = g.0; no_other = g.1 }; count = h.count; each = x.2; spelled = refl },
    )

-- ## A perimeter
perimeter-to : (e : Edition) (strict : Bool) (m : ℕ) (a : Perimeter) (l : Said) → SpellsPerimeter m a l → Law.SpellsPerimeter (rules-by e strict) m a (map (ll e) l)
unfolding rndf_line_in_of
perimeter-to e strict m a l h =
    let o : h.options ≡ map (say exit) (map (the_exit_of m 0) a.exits) = only_one (lines Field) exit (map (the_exit_of m 0) a.exits) h.options h.given.exits h.given.no_other in
    record {
      good = perimeter-good-to a h.good;
      spelled = ap (map (ll e)) h.spelled ∙ cons refl (cons refl (part_same (ll e) h.options (numbered m 0 1 a.points) (say end_perimeter tt ∷ []) (ap (map (ll e)) o ∙ map-twice (the_exit_of m 0) (say exit) (ll e) a.exits) (points-same e m 0 1 a.points)));
    }

perimeter-back : (e : Edition) (strict : Bool) (m : ℕ) (a : Perimeter) (l : List Line) → Law.SpellsPerimeter (rules-by e strict) m a l → Back e (SpellsPerimeter m) a l
unfolding rndf_line_in_of
perimeter-back e strict m a l h =
    let os = map (say exit) (map (the_exit_of m 0) a.exits) in
    let g = one_only (lines Field) exit (map (the_exit_of m 0) a.exits) in (
      say perimeter (part_id m 0) ∷ say num_perimeterpoints (length a.points) ∷ os ++ (numbered m 0 1 a.points ++ (say end_perimeter tt ∷ [])),
      h.spelled ∙ cons refl (cons refl (sym (part_same (ll e) os (numbered m 0 1 a.points) (say end_perimeter tt ∷ []) (map-twice (the_exit_of m 0) (say exit) (ll e) a.exits) (points-same e m 0 1 a.points)))),
      record { options = os; given = record { exits = g.0; no_other = g.1 }; good = perimeter-good-back a h.good; spelled = refl },
    )

-- ## A spot
abbrev spot-kinds : List Kind
spot-kinds = spot_width_of ∷ checkpoint ∷ []

abbrev spot-values : (m n : ℕ) → Spot → Values (lines Field) spot-kinds
spot-values m n a = (perhaps a.width, (map (the_checkpoint_of m n) (perhaps a.checkpoint), tt))

pub spot-same : (e : Edition) (m n : ℕ) (a : Spot) → map (map (ll e)) (options (lines Field) spot-kinds (spot-values m n a)) ≡ Law.spot_options m n a
unfolding rndf_line_in_of
spot-same e m n a = cons (map-map (say spot_width_of) (ll e) (perhaps a.width)) (cons (map-twice (the_checkpoint_of m n) (say checkpoint) (ll e) (perhaps a.checkpoint)) refl)

abbrev ends : Spot → List Position
ends a = a.first ∷ a.second ∷ []

spot-to : (e : Edition) (strict : Bool) (m n : ℕ) (a : Spot) (l : Said) → SpellsSpotBy (under e strict) m n a l → Law.SpellsSpot (rules-by e strict) m n a (map (ll e) l)
unfolding rndf_line_in_of numbered
spot-to e strict m n a l h =
    let g = h.given in
    record {
      options = map (ll e) h.options;
      given = options-to (lines Field) (ll e) spot-kinds (spot-values m n a) (Law.spot_options m n a) h.options tt (spot-same e m n a) (g.width, (g.checkpoints, tt)) g.no_other;
      good = h.good;
      marked = h.marked;
      spelled = ap (map (ll e)) h.spelled ∙ cons refl (part_same (ll e) h.options (numbered m n 1 (ends a)) (say end_spot tt ∷ []) refl (points-same e m n 1 (ends a)));
    }

spot_back : (e : Edition) (strict : Bool) (m n : ℕ) (a : Spot) (l : List Line) → Law.SpellsSpot (rules-by e strict) m n a l → Back e (SpellsSpotBy (under e strict) m n) a l
unfolding rndf_line_in_of numbered
spot_back e strict m n a l h =
    let x = options-back (lines Field) (ll e) spot-kinds (spot-values m n a) (Law.spot_options m n a) h.options tt (spot-same e m n a) h.given in (
      say spot (part_id m n) ∷ x.0 ++ (numbered m n 1 (ends a) ++ (say end_spot tt ∷ [])),
      h.spelled ∙ cons refl (sym (part_same (ll e) x.0 (numbered m n 1 (ends a)) (say end_spot tt ∷ []) (sym x.1) (points-same e m n 1 (ends a)))),
      record { options = x.0; given = record { width = x.2.0; checkpoints = x.2.1.0; no_other = x.3 }; good = h.good; marked = h.marked; spelled = refl },
    )

-- ## A zone
count-to : (e : Edition) (n : ℕ) → Enough e n → Between (Law.fewest_spots (law_of e)) Law.largest n
count-to march n h = record { low = omega arith; high = h }
count-to december n h = h

count-back : (e : Edition) (n : ℕ) → Between (Law.fewest_spots (law_of e)) Law.largest n → Enough e n
count-back march n h = h.high
count-back december n h = h

zone-to : (e : Edition) (strict : Bool) (m : ℕ) (a : Zone Field) (l : Said) → SpellsZoneBy (under e strict) m a l → Law.SpellsZone (rules-by e strict) m a (map (ll e) l)
unfolding rndf_line_in_of
zone-to e strict m a l h =
    let o : h.options ≡ map (say zone_name_of) (perhaps a.name) = only_one (lines Field) zone_name_of (perhaps a.name) h.options h.given.name h.given.no_other in
    record {
      border = map (ll e) h.border;
      spots = map (ll e) h.spots;
      count = count-to e (length a.spots) h.count;
      bordered = perimeter-to e strict m a.border h.border h.bordered;
      each = turn-to (ll e) (SpellsSpotBy (under e strict) m) (Law.SpellsSpot (rules-by e strict) m) (spot-to e strict m) 1 a.spots h.spots h.each;
      spelled = ap (map (ll e)) h.spelled ∙ cons refl (cons refl (parts_same (ll e) h.options h.border h.spots (say end_zone tt ∷ []) (ap (map (ll e)) o ∙ map-map (say zone_name_of) (ll e) (perhaps a.name)) refl refl));
    }

zone-back : (e : Edition) (strict : Bool) (m : ℕ) (a : Zone Field) (l : List Line) → Law.SpellsZone (rules-by e strict) m a l → Back e (SpellsZoneBy (under e strict) m) a l
unfolding rndf_line_in_of
zone-back e strict m a l h =
    let os = map (say zone_name_of) (perhaps a.name) in
    let g = one_only (lines Field) zone_name_of (perhaps a.name) in
    let b = perimeter-back e strict m a.border h.border h.bordered in
    let x = turn-back (ll e) (SpellsSpotBy (under e strict) m) (Law.SpellsSpot (rules-by e strict) m) (spot_back e strict m) 1 a.spots h.spots h.each in (
      say zone m ∷ say num_spots (length a.spots) ∷ os ++ (b.0 ++ (x.0 ++ (say end_zone tt ∷ []))),
      h.spelled ∙ cons refl (cons refl (sym (parts_same (ll e) os b.0 x.0 (say end_zone tt ∷ []) (map-map (say zone_name_of) (ll e) (perhaps a.name)) (sym b.1) (sym x.1)))),
      record { options = os; border = b.0; spots = x.0; given = record { name = g.0; no_other = g.1 }; count = count-back e (length a.spots) h.count; bordered = b.2; each = x.2; spelled = refl },
    )

-- ## The file
abbrev file-kinds : List Kind
file-kinds = format_version_of ∷ creation_date_of ∷ []

abbrev file-values : Network Field → Values (lines Field) file-kinds
file-values a = (perhaps a.version, (perhaps a.date, tt))

pub file-same : (e : Edition) (a : Network Field) → map (map (ll e)) (options (lines Field) file-kinds (file-values a)) ≡ Law.file_options a.version a.date
unfolding rndf_line_in_of
file-same e a = cons (map-map (say format_version_of) (ll e) (perhaps a.version)) (cons (map-map (say creation_date_of) (ll e) (perhaps a.date)) refl)

pub network-to-by : (e : Edition) (strict : Bool) (n : Network Field) (said : List (Statement Field)) → SpellsNetworkBy (under e strict) n said → Law.SpellsNetwork (rules-by e strict) n (map (rndf_law_line_in e) said)
unfolding rndf_line_in_of
network-to-by e strict a l h =
    let g = h.given in
    record {
      options = map (ll e) h.options;
      segments = map (ll e) h.segments;
      zones = map (ll e) h.zones;
      given = options-to (lines Field) (ll e) file-kinds (file-values a) (Law.file_options a.version a.date) h.options tt (file-same e a) (g.version, (g.date, tt)) g.no_other;
      some-segment = h.some-segment;
      count = h.count;
      each_segment = turn-to (ll e) SpellsSegment (Law.SpellsSegment (rules-by e strict)) (segment-to e strict) 1 a.segments h.segments h.each_segment;
      each_zone = turn-to (ll e) (SpellsZoneBy (under e strict)) (Law.SpellsZone (rules-by e strict)) (zone-to e strict) (suc (length a.segments)) a.zones h.zones h.each_zone;
      spelled = ap (map (ll e)) h.spelled ∙ cons refl (cons refl (cons refl (parts_same (ll e) h.options h.segments h.zones (say end_file_of tt ∷ []) refl refl refl)));
    }

pub network-back-by : (e : Edition) (strict : Bool) (n : Network Field) (l : List Line) → Law.SpellsNetwork (rules-by e strict) n l → (said : List (Statement Field)) × (l ≡ map (rndf_law_line_in e) said) × SpellsNetworkBy (under e strict) n said
unfolding rndf_line_in_of
network-back-by e strict a l h =
    let o = options-back (lines Field) (ll e) file-kinds (file-values a) (Law.file_options a.version a.date) h.options tt (file-same e a) h.given in
    let x = turn-back (ll e) SpellsSegment (Law.SpellsSegment (rules-by e strict)) (segment-back e strict) 1 a.segments h.segments h.each_segment in
    let y = turn-back (ll e) (SpellsZoneBy (under e strict)) (Law.SpellsZone (rules-by e strict)) (zone-back e strict) (suc (length a.segments)) a.zones h.zones h.each_zone in (
      say RNDF_name_of a.name ∷ say num_segments (length a.segments) ∷ say num_zones (length a.zones) ∷ o.0 ++ (x.0 ++ (y.0 ++ (say end_file_of tt ∷ []))),
      h.spelled ∙ cons refl (cons refl (cons refl (sym (parts_same (ll e) o.0 x.0 y.0 (say end_file_of tt ∷ []) (sym o.1) (sym x.1) (sym y.1))))),
      record {
        options = o.0;
        segments = x.0;
        zones = y.0;
        given = record { version = o.2.0; date = o.2.1.0; no_other = o.3 };
        some-segment = h.some-segment;
        count = h.count;
        each_segment = x.2;
        each_zone = y.2;
        spelled = refl;
      },
    )

-- ## With L8's rule
pub network-to_in : (e : Edition) (n : Network Field) (said : List (Statement Field)) → SpellsNetworkBy (under e true) n said → Law.SpellsNetwork (reading (law_of e)) n (map (rndf_law_line_in e) said)
network-to_in e = network-to-by e true

pub network-back_in : (e : Edition) (n : Network Field) (l : List Line) → Law.SpellsNetwork (reading (law_of e)) n l → (said : List (Statement Field)) × (l ≡ map (rndf_law_line_in e) said) × SpellsNetworkBy (under e true) n said
network-back_in e = network-back-by e true

-- in the present edition
pub network-to : (n : Network Field) (said : List (Statement Field)) → SpellsNetwork n said → Law.SpellsNetwork present n (map rndf_law_line said)
network-to = network-to_in march

pub network-back : (n : Network Field) (l : List Line) → Law.SpellsNetwork present n l → (said : List (Statement Field)) × (l ≡ map rndf_law_line said) × SpellsNetwork n said
network-back = network-back_in march
