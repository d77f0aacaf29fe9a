-- Executable: what is known behind a statement of an MDF, and the row that it gives, over the program's types.
-- That this is what `fill` says is a law (proofs/Shown.antt). Assumes nothing.
use Rattle.std.specs.Prelude.{ℕ, ◌+◌, leb}
use Rattle.terms.specs.Words.{pick}
use Rattle.rows.specs.Read.{the_stretch_of}
use Rattle.rows.specs.declared.Stretch.{Stretch}
use Rattle.rows.specs.declared.MissionFileRow.{MissionFileRow}
use Rattle.statement.specs.declared.Order.{Order}
use Rattle.statement.specs.declared.Order.TheVariants as o
use Rattle.mission_progress.specs.declared.MissionProgress.{MissionProgress}
use Rattle.mission_progress.specs.declared.MissionRow.{MissionRow}
use Rattle.mission_progress.specs.declared.MissionRow.TheVariants as Row
use Rattle.mission_progress.specs.Given.{goal_given, limit_given}

-- 01: "a missing name is 0, 0"
abbrev pub missing_name : Stretch
missing_name = the_stretch_of 0 0

abbrev pub none_read_of : MissionProgress
none_read_of = record { file = record { name = missing_name; rndf = missing_name; version = missing_name; date = missing_name }; goals = 0; limits = 0 }

-- all rows together
abbrev pub total : MissionProgress → ℕ
total p = p.goals + p.limits

-- the file's own row: each of its four statements gives one name
unfoldable pub file_after_of : Order → MissionFileRow → MissionFileRow
file_after_of (o.MdfName a l) f = record { name = the_stretch_of a l; rndf = f.rndf; version = f.version; date = f.date }
file_after_of (o.Rndf a l) f = record { name = f.name; rndf = the_stretch_of a l; version = f.version; date = f.date }
file_after_of (o.FormatVersion a l) f = record { name = f.name; rndf = f.rndf; version = the_stretch_of a l; date = f.date }
file_after_of (o.CreationDate a l) f = record { name = f.name; rndf = f.rndf; version = f.version; date = the_stretch_of a l }
file_after_of o.Checkpoints f = f
file_after_of (o.NumCheckpoints n) f = f
file_after_of o.EndCheckpoints f = f
file_after_of o.SpeedLimits f = f
file_after_of (o.NumSpeedLimits n) f = f
file_after_of o.EndSpeedLimits f = f
file_after_of o.EndFile f = f
file_after_of (o.Goal n) f = f
file_after_of (o.Limit i a b) f = f

-- the row that a statement gives
unfoldable pub mission_row_of : Order → MissionRow
mission_row_of (o.MdfName a l) = Row.Nothing
mission_row_of (o.Rndf a l) = Row.Nothing
mission_row_of (o.FormatVersion a l) = Row.Nothing
mission_row_of (o.CreationDate a l) = Row.Nothing
mission_row_of o.Checkpoints = Row.Nothing
mission_row_of (o.NumCheckpoints n) = Row.Nothing
mission_row_of o.EndCheckpoints = Row.Nothing
mission_row_of o.SpeedLimits = Row.Nothing
mission_row_of (o.NumSpeedLimits n) = Row.Nothing
mission_row_of o.EndSpeedLimits = Row.Nothing
mission_row_of o.EndFile = Row.Nothing
mission_row_of (o.Goal n) = goal_given n
mission_row_of (o.Limit i a b) = limit_given i a b

-- a row for each line of a goal, and of a limit
abbrev pub as_many : MissionFileRow → MissionProgress → MissionProgress
as_many f p = record { file = f; goals = p.goals; limits = p.limits }

abbrev pub one_goal : MissionFileRow → MissionProgress → MissionProgress
one_goal f p = record { file = f; goals = p.goals + 1; limits = p.limits }

abbrev pub one_limit : MissionFileRow → MissionProgress → MissionProgress
one_limit f p = record { file = f; goals = p.goals; limits = p.limits + 1 }

unfoldable pub counted_of : Order → MissionFileRow → MissionProgress → MissionProgress
counted_of (o.MdfName a l) f p = as_many f p
counted_of (o.Rndf a l) f p = as_many f p
counted_of (o.FormatVersion a l) f p = as_many f p
counted_of (o.CreationDate a l) f p = as_many f p
counted_of o.Checkpoints f p = as_many f p
counted_of (o.NumCheckpoints n) f p = as_many f p
counted_of o.EndCheckpoints f p = as_many f p
counted_of o.SpeedLimits f p = as_many f p
counted_of (o.NumSpeedLimits n) f p = as_many f p
counted_of o.EndSpeedLimits f p = as_many f p
counted_of o.EndFile f p = as_many f p
counted_of (o.Goal n) f p = one_goal f p
counted_of (o.Limit i a b) f p = one_limit f p

unfoldable pub mission_after_of : Order → MissionProgress → MissionProgress
mission_after_of s p = counted_of s (file_after_of s p.file) p

-- as the program counts: where one row more might not fit into 32 bits, nothing more is counted. No text that is read has so many rows (proofs/Shown.counts)
unfoldable pub mission_after_within : Order → MissionProgress → MissionProgress
mission_after_within s p = pick (leb 4294967295 (total p)) p (mission_after_of s p)
