-- Executable: the walk over an MDF's lines that stores their rows. Assumes nothing.
use Rattle.std.specs.Prelude.{ℕ, Ok, Err, Result}
use Rattle.terms.specs.Ascii.{Bytes}
use Rattle.line.specs.Lines.{lines_of}
use Rattle.statement.specs.declared.Order.{Order}
use Rattle.mission_place.specs.Step.{first_place, over_of}
use Rattle.mission_judge.specs.MdfLine.{mdf_judging}
use Rattle.mission_progress.specs.declared.MissionProgress.{MissionProgress}
use Rattle.mission_progress.specs.Progress.{mission_row_of, mission_after_of}
use Rattle.walk.specs.Standing.{Where}
use Rattle.walk.specs.Walking.{Found, fault, gathered, walked}
use Rattle.refusal.specs.Size.{if_too_long}
use Rattle.mission.specs.Storing.{MissionMemory, memory, stored}
pub use Rattle.refusal.specs.Size.{most}
use Rattle.refusal.specs.declared.Fault.{Fault}

abbrev pub with_progress : MissionProgress → MissionMemory → MissionMemory
with_progress p m = memory p m.goals m.limits

-- a statement, on whatever line it stands: its row is stored, and counted
unfoldable pub put : Where → Order → MissionMemory → MissionMemory
put w s m = with_progress (mission_after_of s m.so_far) (stored (mission_row_of s) m)

-- what was answered, and what the tables then hold, where there is no fault
abbrev pub told : Result MissionProgress Fault → (MissionProgress → MissionMemory) → Found MissionMemory
told (Err f) tables = fault f.line f.number
told (Ok p) tables = gathered (tables p)

-- tables of which there is so much so far, behind all lines of a text
unfoldable pub filled_of : Bytes → MissionMemory → Found MissionMemory
filled_of text m = walked mdf_judging put over_of first_place m 0 1 (lines_of text)

-- 1 of a text that is too long; else the walk
unfoldable pub filled_in : Bytes → MissionMemory → Found MissionMemory
filled_in text m = if_too_long text (fault 0 1) (filled_of text m)
