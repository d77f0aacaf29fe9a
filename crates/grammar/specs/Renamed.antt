-- Executable: a statement with its names told in another way. Assumes nothing.
use Rattle.grammar.specs.Statements.{Kind, Says, Statement, say, RNDF_name_of, num_segments, num_zones, format_version_of, creation_date_of, segment, num_lanes, segment_name_of, end_segment, lane, num_waypoints, lane_width_of, left_boundary_of, right_boundary_of, checkpoint, stop, exit, end_lane_of, zone, num_spots, zone_name_of, end_zone, perimeter, num_perimeterpoints, end_perimeter, spot, spot_width_of, end_spot, end_file_of, point}
use Rattle.grammar.specs.MissionStatements as M

module _ {N N' : Type 0} (f : N → N') where
  abbrev pub says_named : (k : Kind) → Says N k → Says N' k
  says_named RNDF_name_of v = f v
  says_named num_segments v = v
  says_named num_zones v = v
  says_named format_version_of v = f v
  says_named creation_date_of v = f v
  says_named segment v = v
  says_named num_lanes v = v
  says_named segment_name_of v = f v
  says_named end_segment v = v
  says_named lane v = v
  says_named num_waypoints v = v
  says_named lane_width_of v = v
  says_named left_boundary_of v = v
  says_named right_boundary_of v = v
  says_named checkpoint v = v
  says_named stop v = v
  says_named exit v = v
  says_named end_lane_of v = v
  says_named zone v = v
  says_named num_spots v = v
  says_named zone_name_of v = f v
  says_named end_zone v = v
  says_named perimeter v = v
  says_named num_perimeterpoints v = v
  says_named end_perimeter v = v
  says_named spot v = v
  says_named spot_width_of v = v
  says_named end_spot v = v
  says_named end_file_of v = v
  says_named point v = v

  abbrev pub statement_named : Statement N → Statement N'
  statement_named s = say s.kind (says_named s.kind s.val)

  abbrev pub orders_named : (k : M.Kind) → M.Says N k → M.Says N' k
  orders_named M.MDF_name_of v = f v
  orders_named M.RNDF v = f v
  orders_named M.format_version_of v = f v
  orders_named M.creation_date_of v = f v
  orders_named M.checkpoints v = v
  orders_named M.num_checkpoints v = v
  orders_named M.end_checkpoints v = v
  orders_named M.speed_limits v = v
  orders_named M.num_speed_limits v = v
  orders_named M.end_speed_limits v = v
  orders_named M.end_file_of v = v
  orders_named M.goal v = v
  orders_named M.limit v = v

  abbrev pub order_named : M.Statement N → M.Statement N'
  order_named s = M.say s.kind (orders_named s.kind s.val)
