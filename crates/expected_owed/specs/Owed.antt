-- Executable: how many lines that begin with numbers are still owed at a place where nothing else may stand; 0 at every other place. Assumes nothing.
use Rattle.std.specs.Prelude.{List, [], ◌∷◌, Bool, true, ◌&&◌, ℕ}
use Rattle.terms.specs.Words.{pick}
use Rattle.grammar.specs.Machine.{Stand, over, inside}
use Rattle.grammar.specs.Places.{Base, name_due, num_segments_due, num_zones_due, first_segment_due, part_due, num_lanes_due, first_lane_due, lane_due, num_waypoints_due, first_waypoint_due, waypoint_due, num_spots_due, perimeter_due, num_perimeterpoints_due, first_perimeterpoint_due, perimeterpoint_due, spot_due, first_of_spot_due, second_of_spot_due, end_spot_due}
use Rattle.grammar.specs.MissionPlaces as M-at

-- every option that has a flag was given
abbrev pub flags_all : List Bool → Bool
flags_all [] = true
flags_all (f ∷ g) = f && flags_all g

-- ## Points of an RNDF. At the first of a lane or perimeter more options may come, at that of a spot until both were given
abbrev pub owed_points : Base → List Bool → ℕ
owed_points name_due g = 0
owed_points num_segments_due g = 0
owed_points (num_zones_due o) g = 0
owed_points (first_segment_due o z) g = 0
owed_points (part_due m o z) g = 0
owed_points (num_lanes_due m o z) g = 0
owed_points (first_lane_due m o z l) g = 0
owed_points (lane_due m o z n l) g = 0
owed_points (num_waypoints_due m o z n l) g = 0
owed_points (first_waypoint_due m o z n l w) g = 0
owed_points (waypoint_due m o z n l k w) g = w
owed_points (num_spots_due m z) g = 0
owed_points (perimeter_due m z s) g = 0
owed_points (num_perimeterpoints_due m z s) g = 0
owed_points (first_perimeterpoint_due m z s p) g = 0
owed_points (perimeterpoint_due m z s k p) g = p
owed_points (spot_due m z n s) g = 0
owed_points (first_of_spot_due m z n s) g = pick (flags_all g) 2 0
owed_points (second_of_spot_due m z n s) g = 1
owed_points (end_spot_due m z n s) g = 0

abbrev pub owed_at : Stand Base → ℕ
owed_at over = 0
owed_at (inside b g) = owed_points b g

-- ## Goals and limits of an MDF
abbrev pub owed_numbers : M-at.Base → ℕ
owed_numbers M-at.name_due = 0
owed_numbers M-at.RNDF_due = 0
owed_numbers M-at.checkpoints_due = 0
owed_numbers M-at.num_checkpoints_due = 0
owed_numbers M-at.speed_limits_due = 0
owed_numbers M-at.num_speed_limits_due = 0
owed_numbers M-at.end_file_due = 0
owed_numbers (M-at.goal_due g) = g
owed_numbers (M-at.limit_due l) = l

abbrev pub owed_orders_at : Stand M-at.Base → ℕ
owed_orders_at over = 0
owed_orders_at (inside b g) = owed_numbers b
