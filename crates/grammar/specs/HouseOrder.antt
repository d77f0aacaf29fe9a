-- Networks and missions that keep the ranges, and the house order of their statements. Document 01, "House writing": "options in the order listed above, repeats in file order within their kind". Assumes nothing.
use Rattle.std.specs.Prelude.{List, [], ◌∷◌, ◌++◌, map, ℕ, suc, ◌+◌, ◌≤◌, length}
use Rattle.terms.specs.Words.{Each, perhaps, Between}
use Rattle.grammar.specs.Statements.{Statement, say, part_id, point_id, point_line_of, numbered, RNDF_name_of, num_segments, num_zones, format_version_of, creation_date_of, segment, num_lanes, segment_name_of, end_segment, lane, num_waypoints, lane_width_of, left_boundary_of, right_boundary_of, checkpoint, stop, exit, end_lane_of, zone, num_spots, zone_name_of, end_zone, perimeter, num_perimeterpoints, end_perimeter, spot, spot_width_of, end_spot, end_file_of}
use Rattle.grammar.specs.Network.{largest, Lane, Segment, Perimeter, Spot, Zone, Network, the_checkpoint_of, the_exit_of, GoodLane, GoodPerimeter, GoodSpot}
use Rattle.grammar.specs.MissionStatements as M
use Rattle.grammar.specs.Mission.{Mission}

-- ## Networks that keep the ranges
pub record GoodSegment {N : Type 0} (a : Segment N) : Type 0 where
  pub count : Between 1 largest (length a.lanes)
  pub lanes : Each GoodLane a.lanes

pub record GoodZone {N : Type 0} (a : Zone N) : Type 0 where
  pub count : length a.spots ≤ largest
  pub border : GoodPerimeter a.border
  pub spots : Each GoodSpot a.spots
  -- L8: "A spot must have its checkpoint"
  pub marked : Each (λ s. 1 ≤ length (perhaps s.checkpoint)) a.spots

pub record GoodNetwork {N : Type 0} (a : Network N) : Type 0 where
  pub some-segment : 1 ≤ length a.segments
  pub count : length a.segments + length a.zones ≤ largest
  pub segments : Each GoodSegment a.segments
  pub zones : Each GoodZone a.zones

-- ## The house order
-- parts numbered from i, one behind the other
abbrev pub in_turn : {A X : Type 0} → (ℕ → A → List X) → ℕ → List A → List X
in_turn f i [] = []
in_turn f i (a ∷ l) = f i a ++ in_turn f (suc i) l

module _ {N : Type 0} where
  unfoldable pub lane_options : (m n : ℕ) → Lane → List (Statement N)
  lane_options m n a =
      map (say lane_width_of) (perhaps a.width)
      ++ (map (say left_boundary_of) (perhaps a.left)
      ++ (map (say right_boundary_of) (perhaps a.right)
      ++ (map (λ c. say checkpoint (the_checkpoint_of m n c)) a.checkpoints
      ++ (map (λ i. say stop (point_id m n i)) a.stops
      ++ map (λ e. say exit (the_exit_of m n e)) a.exits))))

  unfoldable pub house_lane : (m n : ℕ) → Lane → List (Statement N)
  house_lane m n a = say lane (part_id m n) ∷ say num_waypoints (length a.points) ∷ lane_options m n a ++ (numbered m n 1 a.points ++ (say end_lane_of tt ∷ []))

  unfoldable pub segment_options : Segment N → List (Statement N)
  segment_options a = map (say segment_name_of) (perhaps a.name)

  unfoldable pub house_segment : (m : ℕ) → Segment N → List (Statement N)
  house_segment m a = say segment m ∷ say num_lanes (length a.lanes) ∷ segment_options a ++ (in_turn (house_lane m) 1 a.lanes ++ (say end_segment tt ∷ []))

  unfoldable pub perimeter_options : (m : ℕ) → Perimeter → List (Statement N)
  perimeter_options m a = map (λ e. say exit (the_exit_of m 0 e)) a.exits

  unfoldable pub house_perimeter : (m : ℕ) → Perimeter → List (Statement N)
  house_perimeter m a = say perimeter (part_id m 0) ∷ say num_perimeterpoints (length a.points) ∷ perimeter_options m a ++ (numbered m 0 1 a.points ++ (say end_perimeter tt ∷ []))

  unfoldable pub spot_options : (m n : ℕ) → Spot → List (Statement N)
  spot_options m n a = map (say spot_width_of) (perhaps a.width) ++ map (λ c. say checkpoint (the_checkpoint_of m n c)) (perhaps a.checkpoint)

  unfoldable pub house_spot : (m n : ℕ) → Spot → List (Statement N)
  house_spot m n a = say spot (part_id m n) ∷ spot_options m n a ++ (point_line_of (point_id m n 1) a.first ∷ point_line_of (point_id m n 2) a.second ∷ say end_spot tt ∷ [])

  unfoldable pub zone_options : Zone N → List (Statement N)
  zone_options a = map (say zone_name_of) (perhaps a.name)

  unfoldable pub house_zone : (m : ℕ) → Zone N → List (Statement N)
  house_zone m a = say zone m ∷ say num_spots (length a.spots) ∷ zone_options a ++ (house_perimeter m a.border ++ (in_turn (house_spot m) 1 a.spots ++ (say end_zone tt ∷ [])))

  unfoldable pub file_options : Network N → List (Statement N)
  file_options a = map (say format_version_of) (perhaps a.version) ++ map (say creation_date_of) (perhaps a.date)

  unfoldable pub house_network : Network N → List (Statement N)
  house_network a = say RNDF_name_of a.name ∷ say num_segments (length a.segments) ∷ say num_zones (length a.zones) ∷ file_options a
      ++ (in_turn house_segment 1 a.segments ++ (in_turn house_zone (suc (length a.segments)) a.zones ++ (say end_file_of tt ∷ [])))

  unfoldable pub mission_options : Mission N → List (M.Statement N)
  mission_options a = map (M.say M.format_version_of) (perhaps a.version) ++ map (M.say M.creation_date_of) (perhaps a.date)

  unfoldable pub house_mission : Mission N → List (M.Statement N)
  house_mission a = M.say M.MDF_name_of a.name ∷ M.say M.RNDF a.rndf ∷ mission_options a
      ++ (M.say M.checkpoints tt ∷ M.say M.num_checkpoints (length a.goals) ∷ map (M.say M.goal) a.goals
      ++ (M.say M.end_checkpoints tt ∷ M.say M.speed_limits tt ∷ M.say M.num_speed_limits (length a.limits) ∷ map (M.say M.limit) a.limits
      ++ (M.say M.end_speed_limits tt ∷ M.say M.end_file_of tt ∷ [])))
