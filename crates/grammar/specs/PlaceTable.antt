-- The one table of places by statements for each file. Document 01: "Which statement may stand at which place is one table of places by statements". Assumes nothing.
use Rattle.std.specs.Prelude.{List, [], ◌∷◌, ℕ, get_or}

-- A row for each place, a column for each kind of statement in the order of Statements. A cell is x, refused with 5; or the row of the next place,
-- whose own row is this one or, where nothing more is owed there, the one that says so; or 128 and more, an option, with which the place stays:
-- 128 for one that may repeat, 129, 130, 131 for the first, second and third single option of the place.
abbrev x : ℕ
x = 255

unfoldable pub rndf_table_of : List (List ℕ)
rndf_table_of =
    -- 0: name_due
    (1 ∷ x ∷ x ∷ x ∷ x ∷ x ∷ x ∷ x ∷ x ∷ x ∷ x ∷ x ∷ x ∷ x ∷ x ∷ x ∷ x ∷ x ∷ x ∷ x ∷ x ∷ x ∷ x ∷ x ∷ x ∷ x ∷ x ∷ x ∷ x ∷ x ∷ []) ∷
    -- 1: num_segments_due
    (x ∷ 2 ∷ x ∷ x ∷ x ∷ x ∷ x ∷ x ∷ x ∷ x ∷ x ∷ x ∷ x ∷ x ∷ x ∷ x ∷ x ∷ x ∷ x ∷ x ∷ x ∷ x ∷ x ∷ x ∷ x ∷ x ∷ x ∷ x ∷ x ∷ x ∷ []) ∷
    -- 2: num_zones_due
    (x ∷ x ∷ 3 ∷ x ∷ x ∷ x ∷ x ∷ x ∷ x ∷ x ∷ x ∷ x ∷ x ∷ x ∷ x ∷ x ∷ x ∷ x ∷ x ∷ x ∷ x ∷ x ∷ x ∷ x ∷ x ∷ x ∷ x ∷ x ∷ x ∷ x ∷ []) ∷
    -- 3: first_segment_due
    (x ∷ x ∷ x ∷ 129 ∷ 130 ∷ 7 ∷ x ∷ x ∷ x ∷ x ∷ x ∷ x ∷ x ∷ x ∷ x ∷ x ∷ x ∷ x ∷ x ∷ x ∷ x ∷ x ∷ x ∷ x ∷ x ∷ x ∷ x ∷ x ∷ x ∷ x ∷ []) ∷
    -- 4: part_due, segments owed
    (x ∷ x ∷ x ∷ x ∷ x ∷ 7 ∷ x ∷ x ∷ x ∷ x ∷ x ∷ x ∷ x ∷ x ∷ x ∷ x ∷ x ∷ x ∷ x ∷ x ∷ x ∷ x ∷ x ∷ x ∷ x ∷ x ∷ x ∷ x ∷ x ∷ x ∷ []) ∷
    -- 5: part_due, zones owed
    (x ∷ x ∷ x ∷ x ∷ x ∷ x ∷ x ∷ x ∷ x ∷ x ∷ x ∷ x ∷ x ∷ x ∷ x ∷ x ∷ x ∷ x ∷ 15 ∷ x ∷ x ∷ x ∷ x ∷ x ∷ x ∷ x ∷ x ∷ x ∷ x ∷ x ∷ []) ∷
    -- 6: part_due, nothing owed
    (x ∷ x ∷ x ∷ x ∷ x ∷ x ∷ x ∷ x ∷ x ∷ x ∷ x ∷ x ∷ x ∷ x ∷ x ∷ x ∷ x ∷ x ∷ x ∷ x ∷ x ∷ x ∷ x ∷ x ∷ x ∷ x ∷ x ∷ x ∷ 26 ∷ x ∷ []) ∷
    -- 7: num_lanes_due
    (x ∷ x ∷ x ∷ x ∷ x ∷ x ∷ 8 ∷ x ∷ x ∷ x ∷ x ∷ x ∷ x ∷ x ∷ x ∷ x ∷ x ∷ x ∷ x ∷ x ∷ x ∷ x ∷ x ∷ x ∷ x ∷ x ∷ x ∷ x ∷ x ∷ x ∷ []) ∷
    -- 8: first_lane_due
    (x ∷ x ∷ x ∷ x ∷ x ∷ x ∷ x ∷ 129 ∷ x ∷ 11 ∷ x ∷ x ∷ x ∷ x ∷ x ∷ x ∷ x ∷ x ∷ x ∷ x ∷ x ∷ x ∷ x ∷ x ∷ x ∷ x ∷ x ∷ x ∷ x ∷ x ∷ []) ∷
    -- 9: lane_due, lanes owed
    (x ∷ x ∷ x ∷ x ∷ x ∷ x ∷ x ∷ x ∷ x ∷ 11 ∷ x ∷ x ∷ x ∷ x ∷ x ∷ x ∷ x ∷ x ∷ x ∷ x ∷ x ∷ x ∷ x ∷ x ∷ x ∷ x ∷ x ∷ x ∷ x ∷ x ∷ []) ∷
    -- 10: lane_due, nothing owed
    (x ∷ x ∷ x ∷ x ∷ x ∷ x ∷ x ∷ x ∷ 4 ∷ x ∷ x ∷ x ∷ x ∷ x ∷ x ∷ x ∷ x ∷ x ∷ x ∷ x ∷ x ∷ x ∷ x ∷ x ∷ x ∷ x ∷ x ∷ x ∷ x ∷ x ∷ []) ∷
    -- 11: num_waypoints_due
    (x ∷ x ∷ x ∷ x ∷ x ∷ x ∷ x ∷ x ∷ x ∷ x ∷ 12 ∷ x ∷ x ∷ x ∷ x ∷ x ∷ x ∷ x ∷ x ∷ x ∷ x ∷ x ∷ x ∷ x ∷ x ∷ x ∷ x ∷ x ∷ x ∷ x ∷ []) ∷
    -- 12: first_waypoint_due
    (x ∷ x ∷ x ∷ x ∷ x ∷ x ∷ x ∷ x ∷ x ∷ x ∷ x ∷ 129 ∷ 130 ∷ 131 ∷ 128 ∷ 128 ∷ 128 ∷ x ∷ x ∷ x ∷ x ∷ x ∷ x ∷ x ∷ x ∷ x ∷ x ∷ x ∷ x ∷ 13 ∷ []) ∷
    -- 13: waypoint_due, waypoints owed
    (x ∷ x ∷ x ∷ x ∷ x ∷ x ∷ x ∷ x ∷ x ∷ x ∷ x ∷ x ∷ x ∷ x ∷ x ∷ x ∷ x ∷ x ∷ x ∷ x ∷ x ∷ x ∷ x ∷ x ∷ x ∷ x ∷ x ∷ x ∷ x ∷ 13 ∷ []) ∷
    -- 14: waypoint_due, nothing owed
    (x ∷ x ∷ x ∷ x ∷ x ∷ x ∷ x ∷ x ∷ x ∷ x ∷ x ∷ x ∷ x ∷ x ∷ x ∷ x ∷ x ∷ 9 ∷ x ∷ x ∷ x ∷ x ∷ x ∷ x ∷ x ∷ x ∷ x ∷ x ∷ x ∷ x ∷ []) ∷
    -- 15: num_spots_due
    (x ∷ x ∷ x ∷ x ∷ x ∷ x ∷ x ∷ x ∷ x ∷ x ∷ x ∷ x ∷ x ∷ x ∷ x ∷ x ∷ x ∷ x ∷ x ∷ 16 ∷ x ∷ x ∷ x ∷ x ∷ x ∷ x ∷ x ∷ x ∷ x ∷ x ∷ []) ∷
    -- 16: perimeter_due
    (x ∷ x ∷ x ∷ x ∷ x ∷ x ∷ x ∷ x ∷ x ∷ x ∷ x ∷ x ∷ x ∷ x ∷ x ∷ x ∷ x ∷ x ∷ x ∷ x ∷ 129 ∷ x ∷ 17 ∷ x ∷ x ∷ x ∷ x ∷ x ∷ x ∷ x ∷ []) ∷
    -- 17: num_perimeterpoints_due
    (x ∷ x ∷ x ∷ x ∷ x ∷ x ∷ x ∷ x ∷ x ∷ x ∷ x ∷ x ∷ x ∷ x ∷ x ∷ x ∷ x ∷ x ∷ x ∷ x ∷ x ∷ x ∷ x ∷ 18 ∷ x ∷ x ∷ x ∷ x ∷ x ∷ x ∷ []) ∷
    -- 18: first_perimeterpoint_due
    (x ∷ x ∷ x ∷ x ∷ x ∷ x ∷ x ∷ x ∷ x ∷ x ∷ x ∷ x ∷ x ∷ x ∷ x ∷ x ∷ 128 ∷ x ∷ x ∷ x ∷ x ∷ x ∷ x ∷ x ∷ x ∷ x ∷ x ∷ x ∷ x ∷ 19 ∷ []) ∷
    -- 19: perimeterpoint_due, points owed
    (x ∷ x ∷ x ∷ x ∷ x ∷ x ∷ x ∷ x ∷ x ∷ x ∷ x ∷ x ∷ x ∷ x ∷ x ∷ x ∷ x ∷ x ∷ x ∷ x ∷ x ∷ x ∷ x ∷ x ∷ x ∷ x ∷ x ∷ x ∷ x ∷ 19 ∷ []) ∷
    -- 20: perimeterpoint_due, nothing owed
    (x ∷ x ∷ x ∷ x ∷ x ∷ x ∷ x ∷ x ∷ x ∷ x ∷ x ∷ x ∷ x ∷ x ∷ x ∷ x ∷ x ∷ x ∷ x ∷ x ∷ x ∷ x ∷ x ∷ x ∷ 21 ∷ x ∷ x ∷ x ∷ x ∷ x ∷ []) ∷
    -- 21: spot_due, spots owed
    (x ∷ x ∷ x ∷ x ∷ x ∷ x ∷ x ∷ x ∷ x ∷ x ∷ x ∷ x ∷ x ∷ x ∷ x ∷ x ∷ x ∷ x ∷ x ∷ x ∷ x ∷ x ∷ x ∷ x ∷ x ∷ 23 ∷ x ∷ x ∷ x ∷ x ∷ []) ∷
    -- 22: spot_due, nothing owed
    (x ∷ x ∷ x ∷ x ∷ x ∷ x ∷ x ∷ x ∷ x ∷ x ∷ x ∷ x ∷ x ∷ x ∷ x ∷ x ∷ x ∷ x ∷ x ∷ x ∷ x ∷ 4 ∷ x ∷ x ∷ x ∷ x ∷ x ∷ x ∷ x ∷ x ∷ []) ∷
    -- 23: first_of_spot_due
    (x ∷ x ∷ x ∷ x ∷ x ∷ x ∷ x ∷ x ∷ x ∷ x ∷ x ∷ x ∷ x ∷ x ∷ 130 ∷ x ∷ x ∷ x ∷ x ∷ x ∷ x ∷ x ∷ x ∷ x ∷ x ∷ x ∷ 129 ∷ x ∷ x ∷ 24 ∷ []) ∷
    -- 24: second_of_spot_due
    (x ∷ x ∷ x ∷ x ∷ x ∷ x ∷ x ∷ x ∷ x ∷ x ∷ x ∷ x ∷ x ∷ x ∷ x ∷ x ∷ x ∷ x ∷ x ∷ x ∷ x ∷ x ∷ x ∷ x ∷ x ∷ x ∷ x ∷ x ∷ x ∷ 25 ∷ []) ∷
    -- 25: end_spot_due
    (x ∷ x ∷ x ∷ x ∷ x ∷ x ∷ x ∷ x ∷ x ∷ x ∷ x ∷ x ∷ x ∷ x ∷ x ∷ x ∷ x ∷ x ∷ x ∷ x ∷ x ∷ x ∷ x ∷ x ∷ x ∷ x ∷ x ∷ 21 ∷ x ∷ x ∷ []) ∷
    -- 26: over
    (x ∷ x ∷ x ∷ x ∷ x ∷ x ∷ x ∷ x ∷ x ∷ x ∷ x ∷ x ∷ x ∷ x ∷ x ∷ x ∷ x ∷ x ∷ x ∷ x ∷ x ∷ x ∷ x ∷ x ∷ x ∷ x ∷ x ∷ x ∷ x ∷ x ∷ []) ∷
    []

unfoldable pub mdf_table_of : List (List ℕ)
mdf_table_of =
    -- 0: name_due
    (1 ∷ x ∷ x ∷ x ∷ x ∷ x ∷ x ∷ x ∷ x ∷ x ∷ x ∷ x ∷ x ∷ []) ∷
    -- 1: RNDF_due
    (x ∷ 2 ∷ x ∷ x ∷ x ∷ x ∷ x ∷ x ∷ x ∷ x ∷ x ∷ x ∷ x ∷ []) ∷
    -- 2: checkpoints_due
    (x ∷ x ∷ 129 ∷ 130 ∷ 3 ∷ x ∷ x ∷ x ∷ x ∷ x ∷ x ∷ x ∷ x ∷ []) ∷
    -- 3: num_checkpoints_due
    (x ∷ x ∷ x ∷ x ∷ x ∷ 4 ∷ x ∷ x ∷ x ∷ x ∷ x ∷ x ∷ x ∷ []) ∷
    -- 4: goal_due, goals owed
    (x ∷ x ∷ x ∷ x ∷ x ∷ x ∷ x ∷ x ∷ x ∷ x ∷ x ∷ 4 ∷ x ∷ []) ∷
    -- 5: goal_due, nothing owed
    (x ∷ x ∷ x ∷ x ∷ x ∷ x ∷ 6 ∷ x ∷ x ∷ x ∷ x ∷ x ∷ x ∷ []) ∷
    -- 6: speed_limits_due
    (x ∷ x ∷ x ∷ x ∷ x ∷ x ∷ x ∷ 7 ∷ x ∷ x ∷ x ∷ x ∷ x ∷ []) ∷
    -- 7: num_speed_limits_due
    (x ∷ x ∷ x ∷ x ∷ x ∷ x ∷ x ∷ x ∷ 8 ∷ x ∷ x ∷ x ∷ x ∷ []) ∷
    -- 8: limit_due, limits owed
    (x ∷ x ∷ x ∷ x ∷ x ∷ x ∷ x ∷ x ∷ x ∷ x ∷ x ∷ x ∷ 8 ∷ []) ∷
    -- 9: limit_due, nothing owed
    (x ∷ x ∷ x ∷ x ∷ x ∷ x ∷ x ∷ x ∷ x ∷ 10 ∷ x ∷ x ∷ x ∷ []) ∷
    -- 10: end_file_due
    (x ∷ x ∷ x ∷ x ∷ x ∷ x ∷ x ∷ x ∷ x ∷ x ∷ 11 ∷ x ∷ x ∷ []) ∷
    -- 11: over
    (x ∷ x ∷ x ∷ x ∷ x ∷ x ∷ x ∷ x ∷ x ∷ x ∷ x ∷ x ∷ x ∷ []) ∷
    []

abbrev pub cell : List (List ℕ) → (place kind : ℕ) → ℕ
cell table place kind = get_or (get_or table place []) kind 255
