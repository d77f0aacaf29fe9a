-- Executable: the row that a goal or a limit gives: its numbers as kinds, and no row where a kind refuses one. No place of an MDF lets such a number through
-- (proofs/Shown.antt says what the others become). Assumes nothing.
use Rattle.std.specs.Prelude.{ℕ, Some, None, Option}
use Rattle.units.specs.Made.{mph_of, the_checkpoint_number_of, the_segment_id_of}
use Rattle.units.specs.declared.Mph.{Mph}
use Rattle.units.specs.declared.SegmentId.{SegmentId}
use Rattle.mission_progress.specs.declared.MissionRow.{MissionRow}
use Rattle.mission_progress.specs.declared.MissionRow.TheVariants as Row
use Rattle.units.specs.declared.CheckpointNumber.{CheckpointNumber}

abbrev pub numbered : Option CheckpointNumber → MissionRow
numbered (Some number) = Row.Goal (record { number = number })
numbered None = Row.Nothing

abbrev pub up_to : SegmentId → Mph → Option Mph → MissionRow
up_to id minimum (Some maximum) = Row.Limit (record { id = id; minimum = minimum; maximum = maximum })
up_to id minimum None = Row.Nothing

abbrev pub from : SegmentId → Option Mph → Option Mph → MissionRow
from id (Some minimum) maximum = up_to id minimum maximum
from id None maximum = Row.Nothing

abbrev pub limited : Option SegmentId → Option Mph → Option Mph → MissionRow
limited (Some id) minimum maximum = from id minimum maximum
limited None minimum maximum = Row.Nothing

abbrev pub goal_given : ℕ → MissionRow
goal_given n = numbered (the_checkpoint_number_of n)

abbrev pub limit_given : (id minimum maximum : ℕ) → MissionRow
limit_given id minimum maximum = limited (the_segment_id_of id) (mph_of minimum) (mph_of maximum)
