-- Executable: the rows of each table counted on the way, by the kinds of the statements alone.
use Rattle.std.specs.Prelude.{List, [], ◌∷◌, suc}
use Rattle.grammar.specs.Statements.{Kind, Statement, RNDF_name_of, num_segments, num_zones, format_version_of, creation_date_of, segment, num_lanes, segment_name_of, end_segment, lane, num_waypoints, lane_width_of, left_boundary_of, right_boundary_of, checkpoint, stop, exit, end_lane_of, zone, num_spots, zone_name_of, end_zone, perimeter, num_perimeterpoints, end_perimeter, spot, spot_width_of, end_spot, end_file_of, point}
use Rattle.grammar.specs.MissionStatements as M
use Rattle.fill.specs.Counts.{Counts, MissionCounts}

abbrev pub no_counts : Counts
no_counts = record { segments = 0; lanes = 0; zones = 0; spots = 0; points = 0; checkpoints = 0; stops = 0; exits = 0 }

-- the counts behind a statement of this kind
abbrev pub tally : Kind → Counts → Counts
tally RNDF_name_of c = c
tally num_segments c = c
tally num_zones c = c
tally format_version_of c = c
tally creation_date_of c = c
tally segment c = c
tally num_lanes c = c
tally segment_name_of c = c
tally end_segment c = record { segments = suc c.segments; lanes = c.lanes; zones = c.zones; spots = c.spots; points = c.points; checkpoints = c.checkpoints; stops = c.stops; exits = c.exits }
tally lane c = c
tally num_waypoints c = c
tally lane_width_of c = c
tally left_boundary_of c = c
tally right_boundary_of c = c
tally checkpoint c = record { segments = c.segments; lanes = c.lanes; zones = c.zones; spots = c.spots; points = c.points; checkpoints = suc c.checkpoints; stops = c.stops; exits = c.exits }
tally stop c = record { segments = c.segments; lanes = c.lanes; zones = c.zones; spots = c.spots; points = c.points; checkpoints = c.checkpoints; stops = suc c.stops; exits = c.exits }
tally exit c = record { segments = c.segments; lanes = c.lanes; zones = c.zones; spots = c.spots; points = c.points; checkpoints = c.checkpoints; stops = c.stops; exits = suc c.exits }
tally end_lane_of c = record { segments = c.segments; lanes = suc c.lanes; zones = c.zones; spots = c.spots; points = c.points; checkpoints = c.checkpoints; stops = c.stops; exits = c.exits }
tally zone c = c
tally num_spots c = c
tally zone_name_of c = c
tally end_zone c = record { segments = c.segments; lanes = c.lanes; zones = suc c.zones; spots = c.spots; points = c.points; checkpoints = c.checkpoints; stops = c.stops; exits = c.exits }
tally perimeter c = c
tally num_perimeterpoints c = c
tally end_perimeter c = c
tally spot c = c
tally spot_width_of c = c
tally end_spot c = record { segments = c.segments; lanes = c.lanes; zones = c.zones; spots = suc c.spots; points = c.points; checkpoints = c.checkpoints; stops = c.stops; exits = c.exits }
tally end_file_of c = c
tally point c = record { segments = c.segments; lanes = c.lanes; zones = c.zones; spots = c.spots; points = suc c.points; checkpoints = c.checkpoints; stops = c.stops; exits = c.exits }

-- the counts behind statements
unfoldable pub tallied : {N : Type 0} → List (Statement N) → Counts → Counts
tallied [] c = c
tallied (x ∷ l) c = tallied l (tally x.kind c)

-- ## The same of an MDF
abbrev pub no_mission_counts : MissionCounts
no_mission_counts = record { goals = 0; limits = 0 }

abbrev pub mission_tally : M.Kind → MissionCounts → MissionCounts
mission_tally M.MDF_name_of c = c
mission_tally M.RNDF c = c
mission_tally M.format_version_of c = c
mission_tally M.creation_date_of c = c
mission_tally M.checkpoints c = c
mission_tally M.num_checkpoints c = c
mission_tally M.end_checkpoints c = c
mission_tally M.speed_limits c = c
mission_tally M.num_speed_limits c = c
mission_tally M.end_speed_limits c = c
mission_tally M.end_file_of c = c
mission_tally M.goal c = record { goals = suc c.goals; limits = c.limits }
mission_tally M.limit c = record { goals = c.goals; limits = suc c.limits }

unfoldable pub mission_tallied : {N : Type 0} → List (M.Statement N) → MissionCounts → MissionCounts
mission_tallied [] c = c
mission_tallied (x ∷ l) c = mission_tallied l (mission_tally x.kind c)
