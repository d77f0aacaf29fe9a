-- Executable: the rank of a statement by its kind: its place among the options of its part; 0: it is no option. Assumes nothing.
use Rattle.std.specs.Prelude.{ℕ}
use Rattle.grammar.specs.Statements as R
use Rattle.grammar.specs.MissionStatements as M

-- 01, "The order of an RNDF": "options in the order listed above"; L12: "the house writing and the packed form leave it out": the date has a rank that is never put
abbrev pub rndf_rank : R.Kind → ℕ
rndf_rank R.RNDF_name_of = 0
rndf_rank R.num_segments = 0
rndf_rank R.num_zones = 0
rndf_rank R.format_version_of = 1
rndf_rank R.creation_date_of = 7
rndf_rank R.segment = 0
rndf_rank R.num_lanes = 0
rndf_rank R.segment_name_of = 1
rndf_rank R.end_segment = 0
rndf_rank R.lane = 0
rndf_rank R.num_waypoints = 0
rndf_rank R.lane_width_of = 1
rndf_rank R.left_boundary_of = 2
rndf_rank R.right_boundary_of = 3
rndf_rank R.checkpoint = 4
rndf_rank R.stop = 5
rndf_rank R.exit = 6
rndf_rank R.end_lane_of = 0
rndf_rank R.zone = 0
rndf_rank R.num_spots = 0
rndf_rank R.zone_name_of = 1
rndf_rank R.end_zone = 0
rndf_rank R.perimeter = 0
rndf_rank R.num_perimeterpoints = 0
rndf_rank R.end_perimeter = 0
rndf_rank R.spot = 0
rndf_rank R.spot_width_of = 1
rndf_rank R.end_spot = 0
rndf_rank R.end_file_of = 0
rndf_rank R.point = 0

abbrev pub mdf_rank : M.Kind → ℕ
mdf_rank M.MDF_name_of = 0
mdf_rank M.RNDF = 0
mdf_rank M.format_version_of = 1
mdf_rank M.creation_date_of = 7
mdf_rank M.checkpoints = 0
mdf_rank M.num_checkpoints = 0
mdf_rank M.end_checkpoints = 0
mdf_rank M.speed_limits = 0
mdf_rank M.num_speed_limits = 0
mdf_rank M.end_speed_limits = 0
mdf_rank M.end_file_of = 0
mdf_rank M.goal = 0
mdf_rank M.limit = 0
