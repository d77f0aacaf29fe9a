-- Executable: the row of each place and the column of each kind in the table of places by statements. Assumes nothing.
use Rattle.std.specs.Prelude.{List, [], ◌∷◌, ℕ, zero, suc}
use Rattle.std.proofs.Math.Option.{Option, none, some}
use Rattle.grammar.specs.Statements.{Kind, RNDF_name_of, num_segments, num_zones, format_version_of, creation_date_of, segment, num_lanes, segment_name_of, end_segment, lane, num_waypoints, lane_width_of, left_boundary_of, right_boundary_of, checkpoint, stop, exit, end_lane_of, zone, num_spots, zone_name_of, end_zone, perimeter, num_perimeterpoints, end_perimeter, spot, spot_width_of, end_spot, end_file_of, point}
use Rattle.grammar.specs.Places.{Base, name_due, num_segments_due, num_zones_due, first_segment_due, part_due, num_lanes_due, first_lane_due, lane_due, num_waypoints_due, first_waypoint_due, waypoint_due, num_spots_due, perimeter_due, num_perimeterpoints_due, first_perimeterpoint_due, perimeterpoint_due, spot_due, first_of_spot_due, second_of_spot_due, end_spot_due}
use Rattle.grammar.specs.MissionStatements as M
use Rattle.grammar.specs.MissionPlaces as M-at

-- ## RNDF
abbrev pub kinds : List Kind
kinds = RNDF_name_of ∷ num_segments ∷ num_zones ∷ format_version_of ∷ creation_date_of ∷ segment ∷ num_lanes ∷ segment_name_of ∷ end_segment ∷ lane ∷ num_waypoints ∷ lane_width_of ∷ left_boundary_of ∷ right_boundary_of ∷ checkpoint ∷ stop ∷ exit ∷ end_lane_of ∷ zone ∷ num_spots ∷ zone_name_of ∷ end_zone ∷ perimeter ∷ num_perimeterpoints ∷ end_perimeter ∷ spot ∷ spot_width_of ∷ end_spot ∷ end_file_of ∷ point ∷ []

abbrev pub kind_row : Kind → ℕ
kind_row RNDF_name_of = 0
kind_row num_segments = 1
kind_row num_zones = 2
kind_row format_version_of = 3
kind_row creation_date_of = 4
kind_row segment = 5
kind_row num_lanes = 6
kind_row segment_name_of = 7
kind_row end_segment = 8
kind_row lane = 9
kind_row num_waypoints = 10
kind_row lane_width_of = 11
kind_row left_boundary_of = 12
kind_row right_boundary_of = 13
kind_row checkpoint = 14
kind_row stop = 15
kind_row exit = 16
kind_row end_lane_of = 17
kind_row zone = 18
kind_row num_spots = 19
kind_row zone_name_of = 20
kind_row end_zone = 21
kind_row perimeter = 22
kind_row num_perimeterpoints = 23
kind_row end_perimeter = 24
kind_row spot = 25
kind_row spot_width_of = 26
kind_row end_spot = 27
kind_row end_file_of = 28
kind_row point = 29

-- the row of a place
abbrev pub rndf_row : Base → ℕ
rndf_row name_due = 0
rndf_row num_segments_due = 1
rndf_row (num_zones_due o) = 2
rndf_row (first_segment_due o z) = 3
rndf_row (part_due m (suc o) z) = 4
rndf_row (part_due m zero (suc z)) = 5
rndf_row (part_due m zero zero) = 6
rndf_row (num_lanes_due m o z) = 7
rndf_row (first_lane_due m o z l) = 8
rndf_row (lane_due m o z n (suc l)) = 9
rndf_row (lane_due m o z n zero) = 10
rndf_row (num_waypoints_due m o z n l) = 11
rndf_row (first_waypoint_due m o z n l w) = 12
rndf_row (waypoint_due m o z n l k (suc w)) = 13
rndf_row (waypoint_due m o z n l k zero) = 14
rndf_row (num_spots_due m z) = 15
rndf_row (perimeter_due m z s) = 16
rndf_row (num_perimeterpoints_due m z s) = 17
rndf_row (first_perimeterpoint_due m z s p) = 18
rndf_row (perimeterpoint_due m z s k (suc p)) = 19
rndf_row (perimeterpoint_due m z s k zero) = 20
rndf_row (spot_due m z n (suc s)) = 21
rndf_row (spot_due m z n zero) = 22
rndf_row (first_of_spot_due m z n s) = 23
rndf_row (second_of_spot_due m z n s) = 24
rndf_row (end_spot_due m z n s) = 25

-- the row that a cell names: the same, whatever is owed; 26 behind the end
abbrev pub rndf_stem : Option Base → ℕ
rndf_stem none = 26
rndf_stem (some name_due) = 0
rndf_stem (some num_segments_due) = 1
rndf_stem (some (num_zones_due o)) = 2
rndf_stem (some (first_segment_due o z)) = 3
rndf_stem (some (part_due m o z)) = 4
rndf_stem (some (num_lanes_due m o z)) = 7
rndf_stem (some (first_lane_due m o z l)) = 8
rndf_stem (some (lane_due m o z n l)) = 9
rndf_stem (some (num_waypoints_due m o z n l)) = 11
rndf_stem (some (first_waypoint_due m o z n l w)) = 12
rndf_stem (some (waypoint_due m o z n l k w)) = 13
rndf_stem (some (num_spots_due m z)) = 15
rndf_stem (some (perimeter_due m z s)) = 16
rndf_stem (some (num_perimeterpoints_due m z s)) = 17
rndf_stem (some (first_perimeterpoint_due m z s p)) = 18
rndf_stem (some (perimeterpoint_due m z s k p)) = 19
rndf_stem (some (spot_due m z n s)) = 21
rndf_stem (some (first_of_spot_due m z n s)) = 23
rndf_stem (some (second_of_spot_due m z n s)) = 24
rndf_stem (some (end_spot_due m z n s)) = 25

-- ## MDF
abbrev pub mission_kinds : List M.Kind
mission_kinds = M.MDF_name_of ∷ M.RNDF ∷ M.format_version_of ∷ M.creation_date_of ∷ M.checkpoints ∷ M.num_checkpoints ∷ M.end_checkpoints ∷ M.speed_limits ∷ M.num_speed_limits ∷ M.end_speed_limits ∷ M.end_file_of ∷ M.goal ∷ M.limit ∷ []

abbrev pub mission_kind_row : M.Kind → ℕ
mission_kind_row M.MDF_name_of = 0
mission_kind_row M.RNDF = 1
mission_kind_row M.format_version_of = 2
mission_kind_row M.creation_date_of = 3
mission_kind_row M.checkpoints = 4
mission_kind_row M.num_checkpoints = 5
mission_kind_row M.end_checkpoints = 6
mission_kind_row M.speed_limits = 7
mission_kind_row M.num_speed_limits = 8
mission_kind_row M.end_speed_limits = 9
mission_kind_row M.end_file_of = 10
mission_kind_row M.goal = 11
mission_kind_row M.limit = 12

abbrev pub mdf_row : M-at.Base → ℕ
mdf_row M-at.name_due = 0
mdf_row M-at.RNDF_due = 1
mdf_row M-at.checkpoints_due = 2
mdf_row M-at.num_checkpoints_due = 3
mdf_row (M-at.goal_due (suc g)) = 4
mdf_row (M-at.goal_due zero) = 5
mdf_row M-at.speed_limits_due = 6
mdf_row M-at.num_speed_limits_due = 7
mdf_row (M-at.limit_due (suc l)) = 8
mdf_row (M-at.limit_due zero) = 9
mdf_row M-at.end_file_due = 10

abbrev pub mdf_stem : Option M-at.Base → ℕ
mdf_stem none = 11
mdf_stem (some M-at.name_due) = 0
mdf_stem (some M-at.RNDF_due) = 1
mdf_stem (some M-at.checkpoints_due) = 2
mdf_stem (some M-at.num_checkpoints_due) = 3
mdf_stem (some (M-at.goal_due g)) = 4
mdf_stem (some M-at.speed_limits_due) = 6
mdf_stem (some M-at.num_speed_limits_due) = 7
mdf_stem (some (M-at.limit_due l)) = 8
mdf_stem (some M-at.end_file_due) = 10
