-- How many words a row of each table has: its columns (Columns.antt), a name being two. Assumes nothing.
use Rattle.std.specs.Prelude.{ℕ}

abbrev pub segment_stride : ℕ
segment_stride = 4

abbrev pub lane_stride : ℕ
lane_stride = 5

abbrev pub zone_stride : ℕ
zone_stride = 6

abbrev pub spot_stride : ℕ
spot_stride = 2

abbrev pub point_stride : ℕ
point_stride = 2

abbrev pub checkpoint_stride : ℕ
checkpoint_stride = 2

abbrev pub stop_stride : ℕ
stop_stride = 1

abbrev pub exit_stride : ℕ
exit_stride = 2

abbrev pub goal_stride : ℕ
goal_stride = 1

abbrev pub limit_stride : ℕ
limit_stride = 3
