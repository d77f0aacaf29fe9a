-- Spelling does not look into names: a network, or a mission, with its names told in another way is spelled by its statements with their names so told. Assumes nothing.
use mathlib.Core.Path.{◌≡◌, refl, sym, ap, ap₂, subst, ◌∙◌}
use mathlib.Core.List.{List, [], ◌∷◌, ◌++◌, map, map-append}
use mathlib.Core.Option.{Option, none, some}
use Prim.Native.Nat.{ℕ, suc, ◌+◌}
use native.Mathlib.Omega.{arith}
use lib.ListN.{length, length-map}
use Rattle.terms.specs.Words.{perhaps, InTurn, nothing, then}
use Rattle.terms.proofs.Lists.{map-id}
use Rattle.grammar.specs.Language.{say, Only}
use Rattle.grammar.specs.Statements.{Kind, Kind-discrete, Says, Statement, Position, numbered, of_kind, RNDF_name_of, num_segments, num_zones, format_version_of, creation_date_of, segment, num_lanes, segment_name_of, end_segment, lane, num_waypoints, lane_width_of, left_boundary_of, right_boundary_of, checkpoint, stop, exit, end_lane_of, zone, num_spots, zone_name_of, end_zone, perimeter, num_perimeterpoints, end_perimeter, spot, spot_width_of, end_spot, end_file_of}
use Rattle.grammar.specs.Statements as G
use Rattle.grammar.specs.MissionStatements as M
use Rattle.grammar.specs.Network.{Lane, Segment, Perimeter, Spot, Zone, Network, SpellsLane, SpellsSegment, SpellsPerimeter, SpellsSpot, SpellsZone, SpellsNetwork}
use Rattle.grammar.specs.Mission.{Mission, SpellsMission}
use Rattle.grammar.specs.Names.{perhaps_name, segment_named_of, zone_named_of, network_named, mission_named}
use Rattle.grammar.specs.Renamed.{says_named, statement_named, orders_named, order_named}
use Rattle.grammar.proofs.Renaming.{all_moved, only-moved}

-- ## Lists
map_same : {A : Type 0} (g : A → A) → ((a : A) → g a ≡ a) → (l : List A) → map g l ≡ l
map_same g e [] = refl
map_same {A} g e (a ∷ l) = ap₂ (λ (x : A) (y : List A). x ∷ y) (e a) (map_same g e l)

map_append-twice : {A B : Type 0} (g : A → B) (x y z : List A) → map g (x ++ (y ++ z)) ≡ map g x ++ (map g y ++ map g z)
map_append-twice {B = B} g x y z = map-append g x (y ++ z) ∙ ap (λ (r : List B). map g x ++ r) (map-append g y z)

-- parts in turn
turn_moved : {A B X Y : Type 0} (Sp : ℕ → A → List X → Type 0) (Sq : ℕ → B → List Y → Type 0) (g : A → B) (h : X → Y) → ((i : ℕ) (a : A) (u : List X) → Sp i a u → Sq i (g a) (map h u))
    → {i : ℕ} {l : List A} {u : List X} → InTurn Sp i l u → InTurn Sq i (map g l) (map h u)
turn_moved Sp Sq g h e nothing = nothing
turn_moved Sp Sq g h e (then {i = i} {a = a} {rest = rest} {u = u} {v = v} s r) =
    subst (InTurn Sq i (g a ∷ map g rest)) (sym (map-append h u v)) (then (e i a u s) (turn_moved Sp Sq g h e r))

-- where the parts themselves have no names
turn-kept : {A X Y : Type 0} (Sp : ℕ → A → List X → Type 0) (Sq : ℕ → A → List Y → Type 0) (h : X → Y) → ((i : ℕ) (a : A) (u : List X) → Sp i a u → Sq i a (map h u))
    → {i : ℕ} {l : List A} {u : List X} → InTurn Sp i l u → InTurn Sq i l (map h u)
turn-kept {A} Sp Sq h e {i = i} {l = l} {u = u} t = subst (λ (r : List A). InTurn Sq i r (map h u)) (map-id l) (turn_moved Sp Sq (λ a. a) h e t)

module _ {N N' : Type 0} (f : N → N') where
  perhaps-named : (g : N → N') → ((a : N) → g a ≡ f a) → (o : Option N) → map g (perhaps o) ≡ perhaps (perhaps_name f o)
  perhaps-named g e none = refl
  perhaps-named g e (some a) = ap (λ (x : N'). x ∷ []) (e a)

  -- ## RNDF
  abbrev h : Statement N → Statement N'
  h = statement_named f

  all_named : (k : Kind) (os : List (Statement N)) → of_kind k (map h os) ≡ map (says_named f k) (of_kind k os)
  all_named = all_moved Kind-discrete (Says N) (Says N') (says_named f)

  only-named : (ks : List Kind) (os : List (Statement N)) → G.Only ks os → G.Only ks (map h os)
  only-named = only-moved Kind-discrete (Says N) (Says N') (says_named f)

  numbered-named : (m n i : ℕ) (ps : List Position) → map h (numbered m n i ps) ≡ numbered m n i ps
  unfolding numbered
  numbered-named m n i [] = refl
  numbered-named m n i (p ∷ ps) = ap (◌∷◌ (G.point_line_of (G.point_id m n i) p)) (numbered-named m n (suc i) ps)

  lane-spelled : (m n : ℕ) (a : Lane) (l : List (Statement N)) → SpellsLane m n a l → SpellsLane m n a (map h l)
  lane-spelled m n a l s = let os = s.options in let g = s.given in record {
    options = map h os;
    given = record {
      width = all_named lane_width_of os ∙ map_same (says_named f lane_width_of) (λ v. refl) (of_kind lane_width_of os) ∙ g.width;
      left = all_named left_boundary_of os ∙ map_same (says_named f left_boundary_of) (λ v. refl) (of_kind left_boundary_of os) ∙ g.left;
      right = all_named right_boundary_of os ∙ map_same (says_named f right_boundary_of) (λ v. refl) (of_kind right_boundary_of os) ∙ g.right;
      checkpoints = all_named checkpoint os ∙ map_same (says_named f checkpoint) (λ v. refl) (of_kind checkpoint os) ∙ g.checkpoints;
      stops = all_named stop os ∙ map_same (says_named f stop) (λ v. refl) (of_kind stop os) ∙ g.stops;
      exits = all_named exit os ∙ map_same (says_named f exit) (λ v. refl) (of_kind exit os) ∙ g.exits;
      no_other = only-named (lane_width_of ∷ left_boundary_of ∷ right_boundary_of ∷ checkpoint ∷ stop ∷ exit ∷ []) os g.no_other;
    };
    good = s.good;
    spelled = ap (map h) s.spelled ∙ ap (λ (x : List (Statement N')). G.say lane (G.part_id m n) ∷ G.say num_waypoints (length a.points) ∷ x)
        (map_append-twice h os (numbered m n 1 a.points) (G.say end_lane_of tt ∷ []) ∙ ap (λ (x : List (Statement N')). map h os ++ (x ++ (G.say end_lane_of tt ∷ []))) (numbered-named m n 1 a.points));
  }

  segment-spelled : (m : ℕ) (a : Segment N) (l : List (Statement N)) → SpellsSegment m a l → SpellsSegment m (segment_named_of f a) (map h l)
  segment-spelled m a l s = let os = s.options in record {
    options = map h os;
    lanes = map h s.lanes;
    given = record {
      name = all_named segment_name_of os ∙ ap (map (says_named f segment_name_of)) s.given.name ∙ perhaps-named (says_named f segment_name_of) (λ v. refl) a.name;
      no_other = only-named (segment_name_of ∷ []) os s.given.no_other;
    };
    count = s.count;
    each = turn-kept (SpellsLane m) (SpellsLane m) h (lane-spelled m) s.each;
    spelled = ap (map h) s.spelled ∙ ap (λ (x : List (Statement N')). G.say segment m ∷ G.say num_lanes (length a.lanes) ∷ x) (map_append-twice h os s.lanes (G.say end_segment tt ∷ []));
  }

  perimeter-spelled : (m : ℕ) (a : Perimeter) (l : List (Statement N)) → SpellsPerimeter m a l → SpellsPerimeter m a (map h l)
  perimeter-spelled m a l s = let os = s.options in record {
    options = map h os;
    given = record {
      exits = all_named exit os ∙ map_same (says_named f exit) (λ v. refl) (of_kind exit os) ∙ s.given.exits;
      no_other = only-named (exit ∷ []) os s.given.no_other;
    };
    good = s.good;
    spelled = ap (map h) s.spelled ∙ ap (λ (x : List (Statement N')). G.say perimeter (G.part_id m 0) ∷ G.say num_perimeterpoints (length a.points) ∷ x)
        (map_append-twice h os (numbered m 0 1 a.points) (G.say end_perimeter tt ∷ []) ∙ ap (λ (x : List (Statement N')). map h os ++ (x ++ (G.say end_perimeter tt ∷ []))) (numbered-named m 0 1 a.points));
  }

  spot-spelled : (m n : ℕ) (a : Spot) (l : List (Statement N)) → SpellsSpot m n a l → SpellsSpot m n a (map h l)
  spot-spelled m n a l s = let os = s.options in let g = s.given in record {
    options = map h os;
    given = record {
      width = all_named spot_width_of os ∙ map_same (says_named f spot_width_of) (λ v. refl) (of_kind spot_width_of os) ∙ g.width;
      checkpoints = all_named checkpoint os ∙ map_same (says_named f checkpoint) (λ v. refl) (of_kind checkpoint os) ∙ g.checkpoints;
      no_other = only-named (spot_width_of ∷ checkpoint ∷ []) os g.no_other;
    };
    good = s.good;
    marked = s.marked;
    spelled = ap (map h) s.spelled ∙ ap (◌∷◌ (G.say spot (G.part_id m n))) (map-append h os (G.point_line_of (G.point_id m n 1) a.first ∷ G.point_line_of (G.point_id m n 2) a.second ∷ G.say end_spot tt ∷ []));
  }

  zone-spelled : (m : ℕ) (a : Zone N) (l : List (Statement N)) → SpellsZone m a l → SpellsZone m (zone_named_of f a) (map h l)
  zone-spelled m a l s = let os = s.options in record {
    options = map h os;
    border = map h s.border;
    spots = map h s.spots;
    given = record {
      name = all_named zone_name_of os ∙ ap (map (says_named f zone_name_of)) s.given.name ∙ perhaps-named (says_named f zone_name_of) (λ v. refl) a.name;
      no_other = only-named (zone_name_of ∷ []) os s.given.no_other;
    };
    count = s.count;
    bordered = perimeter-spelled m a.border s.border s.bordered;
    each = turn-kept (SpellsSpot m) (SpellsSpot m) h (spot-spelled m) s.each;
    spelled = ap (map h) s.spelled ∙ ap (λ (x : List (Statement N')). G.say zone m ∷ G.say num_spots (length a.spots) ∷ x)
        (map-append h os (s.border ++ (s.spots ++ (G.say end_zone tt ∷ []))) ∙ ap (λ (x : List (Statement N')). map h os ++ x) (map_append-twice h s.border s.spots (G.say end_zone tt ∷ [])));
  }

  -- THE LAW
  pub network-spelled : (a : Network N) (l : List (Statement N)) → SpellsNetwork a l → SpellsNetwork (network_named f a) (map (statement_named f) l)
  unfolding network_named
  network-spelled a l s =
      let os = s.options in
      let ns : length a.segments ≡ length (map (segment_named_of f) a.segments) = sym (length-map a.segments (segment_named_of f)) in
      let nz : length a.zones ≡ length (map (zone_named_of f) a.zones) = sym (length-map a.zones (zone_named_of f)) in
      record {
        options = map h os;
        segments = map h s.segments;
        zones = map h s.zones;
        given = record {
          version = all_named format_version_of os ∙ ap (map (says_named f format_version_of)) s.given.version ∙ perhaps-named (says_named f format_version_of) (λ v. refl) a.version;
          date = all_named creation_date_of os ∙ ap (map (says_named f creation_date_of)) s.given.date ∙ perhaps-named (says_named f creation_date_of) (λ v. refl) a.date;
          no_other = only-named (format_version_of ∷ creation_date_of ∷ []) os s.given.no_other;
        };
        some-segment = let k = s.some-segment in omega arith;
        count = let k = s.count in omega arith;
        each_segment = turn_moved SpellsSegment SpellsSegment (segment_named_of f) h segment-spelled s.each_segment;
        each_zone = subst (λ (i : ℕ). InTurn SpellsZone (suc i) (map (zone_named_of f) a.zones) (map h s.zones)) ns (turn_moved SpellsZone SpellsZone (zone_named_of f) h zone-spelled s.each_zone);
        spelled = ap (map h) s.spelled
            ∙ ap₂ (λ (i j : ℕ). G.say RNDF_name_of (f a.name) ∷ G.say num_segments i ∷ G.say num_zones j ∷ map h (os ++ (s.segments ++ (s.zones ++ (G.say end_file_of tt ∷ []))))) ns nz
            ∙ ap (λ (x : List (Statement N')). G.say RNDF_name_of (f a.name) ∷ G.say num_segments (length (map (segment_named_of f) a.segments)) ∷ G.say num_zones (length (map (zone_named_of f) a.zones)) ∷ x)
            (map-append h os (s.segments ++ (s.zones ++ (G.say end_file_of tt ∷ []))) ∙ ap (λ (x : List (Statement N')). map h os ++ x) (map_append-twice h s.segments s.zones (G.say end_file_of tt ∷ [])));
      }

  -- ## MDF
  abbrev o : M.Statement N → M.Statement N'
  o = order_named f

  all-ordered : (k : M.Kind) (os : List (M.Statement N)) → M.of_kind k (map o os) ≡ map (orders_named f k) (M.of_kind k os)
  all-ordered = all_moved M.Kind-discrete (M.Says N) (M.Says N') (orders_named f)

  goals-ordered : (l : List ℕ) → map o (map (M.say M.goal) l) ≡ map (M.say M.goal) l
  goals-ordered [] = refl
  goals-ordered (a ∷ l) = ap (◌∷◌ (M.say M.goal a)) (goals-ordered l)

  limits-ordered : (l : List M.Limit) → map o (map (M.say M.limit) l) ≡ map (M.say M.limit) l
  limits-ordered [] = refl
  limits-ordered (a ∷ l) = ap (◌∷◌ (M.say M.limit a)) (limits-ordered l)

  pub mission-spelled : (a : Mission N) (l : List (M.Statement N)) → SpellsMission a l → SpellsMission (mission_named f a) (map (order_named f) l)
  unfolding mission_named
  mission-spelled a l s =
      let os = s.options in
      let last : List (M.Statement N) = M.say M.end_speed_limits tt ∷ M.say M.end_file_of tt ∷ [] in
      let limits : List (M.Statement N) = M.say M.end_checkpoints tt ∷ M.say M.speed_limits tt ∷ M.say M.num_speed_limits (length a.limits) ∷ map (M.say M.limit) a.limits ++ last in
      let goals : List (M.Statement N) = M.say M.checkpoints tt ∷ M.say M.num_checkpoints (length a.goals) ∷ map (M.say M.goal) a.goals ++ limits in
      record {
        options = map o os;
        given = record {
          version = all-ordered M.format_version_of os ∙ ap (map (orders_named f M.format_version_of)) s.given.version ∙ perhaps-named (orders_named f M.format_version_of) (λ v. refl) a.version;
          date = all-ordered M.creation_date_of os ∙ ap (map (orders_named f M.creation_date_of)) s.given.date ∙ perhaps-named (orders_named f M.creation_date_of) (λ v. refl) a.date;
          no_other = only-moved M.Kind-discrete (M.Says N) (M.Says N') (orders_named f) (M.format_version_of ∷ M.creation_date_of ∷ []) os s.given.no_other;
        };
        good = record { some_goals = s.good.some_goals; goals = s.good.goals; some_limits = s.good.some_limits; limits = s.good.limits };
        spelled = ap (map o) s.spelled
            ∙ ap (λ (x : List (M.Statement N')). M.say M.MDF_name_of (f a.name) ∷ M.say M.RNDF (f a.rndf) ∷ x)
            (map-append o os goals
            ∙ ap (λ (x : List (M.Statement N')). map o os ++ (M.say M.checkpoints tt ∷ M.say M.num_checkpoints (length a.goals) ∷ x))
            (map-append o (map (M.say M.goal) a.goals) limits
            ∙ ap₂ (λ (x y : List (M.Statement N')). x ++ (M.say M.end_checkpoints tt ∷ M.say M.speed_limits tt ∷ M.say M.num_speed_limits (length a.limits) ∷ y)) (goals-ordered a.goals)
            (map-append o (map (M.say M.limit) a.limits) last ∙ ap (λ (x : List (M.Statement N')). x ++ (M.say M.end_speed_limits tt ∷ M.say M.end_file_of tt ∷ [])) (limits-ordered a.limits))));
      }
