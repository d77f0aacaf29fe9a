-- The house order does not look into names: the statements of a network, or of a mission, with its names told in another way are its statements with their names so told. Assumes nothing.
use mathlib.Core.Path.{◌≡◌, refl, sym, ap, ap₂, subst, ◌∙◌}
use mathlib.Core.List.{List, [], ◌∷◌, ◌++◌, map, map-append}
use mathlib.Core.Option.{Option, none, some}
use Prim.Native.Nat.{ℕ, suc}
use lib.ListN.{length, length-map}
use Rattle.terms.specs.Words.{perhaps}
use Rattle.terms.proofs.Lists.{map-id}
use Rattle.grammar.specs.Statements.{Statement, Position, say, part_id, point_id, point_line_of, numbered, RNDF_name_of, num_segments, num_zones, format_version_of, creation_date_of, segment, num_lanes, segment_name_of, end_segment, lane, num_waypoints, lane_width_of, left_boundary_of, right_boundary_of, checkpoint, stop, exit, end_lane_of, zone, num_spots, zone_name_of, end_zone, perimeter, num_perimeterpoints, end_perimeter, spot, spot_width_of, end_spot, end_file_of}
use Rattle.grammar.specs.MissionStatements as M
use Rattle.grammar.specs.Network.{Lane, Segment, Perimeter, Spot, Zone, Network, the_checkpoint_of, the_exit_of}
use Rattle.grammar.specs.Mission.{Mission}
use Rattle.grammar.specs.HouseOrder.{in_turn, lane_options, house_lane, segment_options, house_segment, perimeter_options, house_perimeter, spot_options, house_spot, zone_options, house_zone, file_options, house_network, mission_options, house_mission}
use Rattle.grammar.specs.Names.{perhaps_name, segment_named_of, zone_named_of, network_named, mission_named}
use Rattle.grammar.specs.Renamed.{statement_named, order_named}

-- ## Lists that become other lists, thing by thing
record Becomes {X Y : Type 0} (h : X → Y) (x : List X) (y : List Y) : Type 0 where
  is : map h x ≡ y

module _ {X Y : Type 0} {h : X → Y} where
  infixr 5 ◌then◌
  ◌then◌ : {x x' : List X} {y y' : List Y} → Becomes h x y → Becomes h x' y' → Becomes h (x ++ x') (y ++ y')
  ◌then◌ {x = x} {x' = x'} a b = record { is = map-append h x x' ∙ ap₂ (λ (u v : List Y). u ++ v) a.is b.is }

  -- one, and others
  front : (a : X) {x : List X} {y : List Y} → Becomes h x y → Becomes h (a ∷ x) (h a ∷ y)
  front a b = record { is = ap (◌∷◌ (h a)) b.is }

  end : Becomes h [] []
  end = record { is = refl }

  each : {A B : Type 0} (g : A → B) (f : A → X) (f' : B → Y) → ((a : A) → h (f a) ≡ f' (g a)) → (l : List A) → Becomes h (map f l) (map f' (map g l))
  each g f f' e [] = end
  each g f f' e (a ∷ l) = record { is = ap₂ (λ (b : Y) (t : List Y). b ∷ t) (e a) (each g f f' e l).is }

  same : {A : Type 0} (f : A → X) (f' : A → Y) → ((a : A) → h (f a) ≡ f' a) → (l : List A) → Becomes h (map f l) (map f' l)
  same {A} f f' e l = subst (λ (k : List A). Becomes h (map f l) (map f' k)) (map-id l) (each (λ a. a) f f' e l)

  turn : {A B : Type 0} (g : A → B) (f : ℕ → A → List X) (f' : ℕ → B → List Y) → ((i : ℕ) (a : A) → Becomes h (f i a) (f' i (g a))) → (i : ℕ) (l : List A) → Becomes h (in_turn f i l) (in_turn f' i (map g l))
  turn g f f' e i [] = end
  turn g f f' e i (a ∷ l) = e i a then turn g f f' e (suc i) l

  same_turn : {A : Type 0} (f : ℕ → A → List X) (f' : ℕ → A → List Y) → ((i : ℕ) (a : A) → Becomes h (f i a) (f' i a)) → (i : ℕ) (l : List A) → Becomes h (in_turn f i l) (in_turn f' i l)
  same_turn {A} f f' e i l = subst (λ (k : List A). Becomes h (in_turn f i l) (in_turn f' i k)) (map-id l) (turn (λ a. a) f f' e i l)

module _ {N N' : Type 0} (f : N → N') where
  abbrev h : Statement N → Statement N'
  h = statement_named f

  map-perhaps : (o : Option N) → map f (perhaps o) ≡ perhaps (perhaps_name f o)
  map-perhaps none = refl
  map-perhaps (some a) = refl

  -- a name, if there is one
  named : {X Y : Type 0} {t : X → Y} (u : N → X) (v : N' → Y) → ((a : N) → t (u a) ≡ v (f a)) → (o : Option N) → Becomes t (map u (perhaps o)) (map v (perhaps (perhaps_name f o)))
  named {t = t} u v e o = subst (λ (l : List N'). Becomes t (map u (perhaps o)) (map v l)) (map-perhaps o) (each f u v e (perhaps o))

  -- ## RNDF
  points : (m n i : ℕ) (ps : List Position) → Becomes h (numbered m n i ps) (numbered m n i ps)
  unfolding numbered
  points m n i [] = end
  points m n i (p ∷ ps) = front (point_line_of (point_id m n i) p) (points m n (suc i) ps)

  lane-same : (m n : ℕ) (a : Lane) → Becomes h (house_lane m n a) (house_lane m n a)
  unfolding house_lane lane_options
  lane-same m n a =
      let widths = same (say lane_width_of) (say lane_width_of) (λ w. refl) (perhaps a.width) in
      let lefts = same (say left_boundary_of) (say left_boundary_of) (λ b. refl) (perhaps a.left) in
      let rights = same (say right_boundary_of) (say right_boundary_of) (λ b. refl) (perhaps a.right) in
      let checkpoints = same (λ c. say checkpoint (the_checkpoint_of m n c)) (λ c. say checkpoint (the_checkpoint_of m n c)) (λ c. refl) a.checkpoints in
      let stops = same (λ i. say stop (point_id m n i)) (λ i. say stop (point_id m n i)) (λ i. refl) a.stops in
      let exits = same (λ e. say exit (the_exit_of m n e)) (λ e. say exit (the_exit_of m n e)) (λ e. refl) a.exits in
      front (say lane (part_id m n)) (front (say num_waypoints (length a.points)) ((widths then lefts then rights then checkpoints then stops then exits) then points m n 1 a.points then front (say end_lane_of tt) end))

  segment-order : (m : ℕ) (a : Segment N) → Becomes h (house_segment m a) (house_segment m (segment_named_of f a))
  unfolding house_segment segment_options
  segment-order m a = front (say segment m) (front (say num_lanes (length a.lanes))
      (named (say segment_name_of) (say segment_name_of) (λ v. refl) a.name then same_turn (house_lane m) (house_lane m) (lane-same m) 1 a.lanes then front (say end_segment tt) end))

  perimeter-same : (m : ℕ) (a : Perimeter) → Becomes h (house_perimeter m a) (house_perimeter m a)
  unfolding house_perimeter perimeter_options
  perimeter-same m a = front (say perimeter (part_id m 0)) (front (say num_perimeterpoints (length a.points))
      (same (λ e. say exit (the_exit_of m 0 e)) (λ e. say exit (the_exit_of m 0 e)) (λ e. refl) a.exits then points m 0 1 a.points then front (say end_perimeter tt) end))

  spot-same : (m n : ℕ) (a : Spot) → Becomes h (house_spot m n a) (house_spot m n a)
  unfolding house_spot spot_options
  spot-same m n a =
      let widths = same (say spot_width_of) (say spot_width_of) (λ w. refl) (perhaps a.width) in
      let checkpoints = same (λ c. say checkpoint (the_checkpoint_of m n c)) (λ c. say checkpoint (the_checkpoint_of m n c)) (λ c. refl) (perhaps a.checkpoint) in
      front (say spot (part_id m n)) ((widths then checkpoints) then front (point_line_of (point_id m n 1) a.first) (front (point_line_of (point_id m n 2) a.second) (front (say end_spot tt) end)))

  zone-order : (m : ℕ) (a : Zone N) → Becomes h (house_zone m a) (house_zone m (zone_named_of f a))
  unfolding house_zone zone_options
  zone-order m a = front (say zone m) (front (say num_spots (length a.spots))
      (named (say zone_name_of) (say zone_name_of) (λ v. refl) a.name then perimeter-same m a.border then same_turn (house_spot m) (house_spot m) (spot-same m) 1 a.spots then front (say end_zone tt) end))

  -- the statements, with the number of segments and of zones as it is
  network_with : (a : Network N) (s z : ℕ) → Becomes h
      (say RNDF_name_of a.name ∷ say num_segments s ∷ say num_zones z ∷ file_options a ++ (in_turn house_segment 1 a.segments ++ (in_turn house_zone (suc s) a.zones ++ (say end_file_of tt ∷ []))))
      (say RNDF_name_of (f a.name) ∷ say num_segments s ∷ say num_zones z ∷ file_options (network_named f a) ++ (in_turn house_segment 1 (map (segment_named_of f) a.segments) ++ (in_turn house_zone (suc s) (map (zone_named_of f) a.zones) ++ (say end_file_of tt ∷ []))))
  unfolding file_options network_named
  network_with a s z =
      let versions = named (say format_version_of) (say format_version_of) (λ v. refl) a.version in
      let dates = named (say creation_date_of) (say creation_date_of) (λ v. refl) a.date in
      front (say RNDF_name_of a.name) (front (say num_segments s) (front (say num_zones z)
      ((versions then dates) then turn (segment_named_of f) house_segment house_segment segment-order 1 a.segments then turn (zone_named_of f) house_zone house_zone zone-order (suc s) a.zones then front (say end_file_of tt) end)))

  -- THE LAW
  pub network-order : (a : Network N) → map (statement_named f) (house_network a) ≡ house_network (network_named f a)
  unfolding house_network network_named
  network-order a =
      (network_with a (length a.segments) (length a.zones)).is
      ∙ ap₂ (λ (s z : ℕ). say RNDF_name_of (f a.name) ∷ say num_segments s ∷ say num_zones z ∷ file_options (network_named f a) ++ (in_turn house_segment 1 (map (segment_named_of f) a.segments) ++ (in_turn house_zone (suc s) (map (zone_named_of f) a.zones) ++ (say end_file_of tt ∷ []))))
      (sym (length-map a.segments (segment_named_of f))) (sym (length-map a.zones (zone_named_of f)))

  -- ## MDF
  pub mission-order : (a : Mission N) → map (order_named f) (house_mission a) ≡ house_mission (mission_named f a)
  unfolding house_mission mission_options mission_named
  mission-order a = mission_becomes.is
    where
      mission_becomes : Becomes (order_named f) (house_mission a) (house_mission (mission_named f a))
      mission_becomes =
          let versions = named (M.say M.format_version_of) (M.say M.format_version_of) (λ v. refl) a.version in
          let dates = named (M.say M.creation_date_of) (M.say M.creation_date_of) (λ v. refl) a.date in
          let goals = same (M.say M.goal) (M.say M.goal) (λ g. refl) a.goals in
          let limits = same (M.say M.limit) (M.say M.limit) (λ l. refl) a.limits in
          front (M.say M.MDF_name_of a.name) (front (M.say M.RNDF a.rndf) ((versions then dates)
          then front (M.say M.checkpoints tt) (front (M.say M.num_checkpoints (length a.goals)) (goals
          then front (M.say M.end_checkpoints tt) (front (M.say M.speed_limits tt) (front (M.say M.num_speed_limits (length a.limits)) (limits
          then front (M.say M.end_speed_limits tt) (front (M.say M.end_file_of tt) end))))))))
