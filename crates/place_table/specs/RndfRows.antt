-- The rows of the RNDF's table by name: what is due at a place, and where a count says how many are owed, what is due where none is. Assumes nothing.
use Rattle.std.specs.Prelude.{ℕ}

abbrev pub name_due : ℕ
name_due = 0

abbrev pub num_segments_due : ℕ
num_segments_due = 1

abbrev pub num_zones_due : ℕ
num_zones_due = 2

abbrev pub first_segment_due : ℕ
first_segment_due = 3

abbrev pub segment_due : ℕ
segment_due = 4

abbrev pub zone_due : ℕ
zone_due = 5

abbrev pub end_file_due : ℕ
end_file_due = 6

abbrev pub num_lanes_due : ℕ
num_lanes_due = 7

abbrev pub first_lane_due : ℕ
first_lane_due = 8

abbrev pub lane_due : ℕ
lane_due = 9

abbrev pub end_segment_due : ℕ
end_segment_due = 10

abbrev pub num_waypoints_due : ℕ
num_waypoints_due = 11

abbrev pub first_waypoint_due : ℕ
first_waypoint_due = 12

abbrev pub waypoint_due : ℕ
waypoint_due = 13

abbrev pub end_lane_due : ℕ
end_lane_due = 14

abbrev pub num_spots_due : ℕ
num_spots_due = 15

abbrev pub perimeter_due : ℕ
perimeter_due = 16

abbrev pub num_perimeterpoints_due : ℕ
num_perimeterpoints_due = 17

abbrev pub first_perimeterpoint_due : ℕ
first_perimeterpoint_due = 18

abbrev pub perimeterpoint_due : ℕ
perimeterpoint_due = 19

abbrev pub end_perimeter_due : ℕ
end_perimeter_due = 20

abbrev pub spot_due : ℕ
spot_due = 21

abbrev pub end_zone_due : ℕ
end_zone_due = 22

abbrev pub first_of_spot_due : ℕ
first_of_spot_due = 23

abbrev pub second_of_spot_due : ℕ
second_of_spot_due = 24

abbrev pub end_spot_due : ℕ
end_spot_due = 25

abbrev pub over : ℕ
over = 26
