-- The rows of the MDF's table by name. Assumes nothing.
use Rattle.std.specs.Prelude.{ℕ}

abbrev pub name_due : ℕ
name_due = 0

abbrev pub RNDF_due : ℕ
RNDF_due = 1

abbrev pub checkpoints_due : ℕ
checkpoints_due = 2

abbrev pub num_checkpoints_due : ℕ
num_checkpoints_due = 3

abbrev pub goal_due : ℕ
goal_due = 4

abbrev pub end_checkpoints_due : ℕ
end_checkpoints_due = 5

abbrev pub speed_limits_due : ℕ
speed_limits_due = 6

abbrev pub num_speed_limits_due : ℕ
num_speed_limits_due = 7

abbrev pub limit_due : ℕ
limit_due = 8

abbrev pub end_speed_limits_due : ℕ
end_speed_limits_due = 9

abbrev pub end_file_due : ℕ
end_file_due = 10

abbrev pub over : ℕ
over = 11
