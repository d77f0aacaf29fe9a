-- Executable: what the reader of an MDF answers, given what is known of its RNDF, and what the lent tables then hold. Assumes nothing.
use Rattle.mission_reader.specs.Types.{MissionReply}
use Rattle.std.specs.Prelude.{List, Bool, false, ℕ, length, replicate, eqb, ⊤, Some, None, Ok, Err, Option, Result}
use Rattle.terms.specs.Ascii.{Bytes}
use Rattle.terms.specs.Words.{pick}
use Rattle.scan.specs.Reach.{same_bytes_of}
use Rattle.rows.specs.Name.{name_of}
use Rattle.rows.specs.Strides.{goal_stride, limit_stride}
use Rattle.rows.specs.declared.Stretch.{Stretch}
use Rattle.rows.specs.declared.MissionFileRow.{MissionFileRow}
use Rattle.mission_progress.specs.declared.MissionProgress.{MissionProgress}
use Rattle.mission_progress.specs.Progress.{none_read_of}
use Rattle.walk.specs.Walking.{Found, fault, gathered}
use Rattle.mission.specs.Storing.{MissionMemory, memory}
use Rattle.mission.specs.Reading.{filled_in}
use Rattle.marks.specs.declared.BadLimit as DL
use Rattle.marks.specs.declared.BadLimit.TheVariants as Limit
use Rattle.marks.specs.Tests.{first_foreign_goal_of, first_bad_limit_of}
use Rattle.find_line.specs.FoundLines.{mdf_line_in}
use Rattle.room.specs.Room.{fits}
use Rattle.refusal.specs.Shapes as Shape
use Rattle.counts.specs.declared.MissionCounts.{MissionCounts}
use Rattle.refusal.specs.declared.Fault.{Fault}

-- what is known of the RNDF: its text, where its name stands, its checkpoints with their count, and how many segments and zones it has
pub record Rndf : Type 0 where
  pub text : Bytes
  pub name : Stretch
  pub checkpoints : List ℕ
  pub count : ℕ
  pub parts : ℕ

abbrev pub rndf_of : Bytes → Stretch → (checkpoints : List ℕ) (count parts : ℕ) → Rndf
rndf_of text name checkpoints count parts = record { text = text; name = name; checkpoints = checkpoints; count = count; parts = parts }

-- ## Room
unfoldable pub room : MissionProgress → (goals limits : ℕ) → Bool
room p goals limits = pick (fits p.goals goals goal_stride) (fits p.limits limits limit_stride) false

-- ## References
-- 14: the name that the MDF gives is the RNDF's
unfoldable pub same_name : Bytes → Stretch → Bytes → Stretch → Bool
same_name rndf name mdf given = same_bytes_of (name_of mdf given) (name_of rndf name)

-- the columns of `RNDF`, `end_speed_limits`, goals and limits
abbrev pub name_line : Bytes → ℕ
name_line mdf = mdf_line_in mdf 1 0

abbrev pub end_line : Bytes → ℕ
end_line mdf = mdf_line_in mdf 9 0

abbrev pub goal_line_of : Bytes → ℕ → ℕ
goal_line_of mdf row = mdf_line_in mdf 11 row

abbrev pub limit_line : Bytes → ℕ → ℕ
limit_line mdf row = mdf_line_in mdf 12 row

-- 18: there are as many limits as segments and zones
abbrev pub by_count : Bytes → (count parts : ℕ) → Result ⊤ Fault
by_count mdf count parts = pick (eqb count parts) (Ok tt) (Err (Shape.fault (end_line mdf) 18))

-- 16 or 17, else 18
unfoldable pub limit_found : Bytes → DL.BadLimit → (count parts : ℕ) → Result ⊤ Fault
limit_found mdf (Limit.NotThere row) count parts = Err (Shape.fault (limit_line mdf row) 16)
limit_found mdf (Limit.Again row) count parts = Err (Shape.fault (limit_line mdf row) 17)
limit_found mdf Limit.Nothing count parts = by_count mdf count parts

abbrev pub limits_fault_of : Bytes → List ℕ → (count parts : ℕ) → Result ⊤ Fault
limits_fault_of mdf limits count parts = limit_found mdf (first_bad_limit_of limits count parts) count parts

-- 15, else what is behind
unfoldable pub goal_found : Bytes → Option ℕ → Result ⊤ Fault → Result ⊤ Fault
goal_found mdf (Some row) behind = Err (Shape.fault (goal_line_of mdf row) 15)
goal_found mdf None behind = behind

-- 14, else 15, else 16 to 18
unfoldable pub refer_of : Rndf → Bytes → MissionMemory → Result ⊤ Fault
refer_of b mdf m =
    pick (same_name b.text b.name mdf m.so_far.file.rndf)
    (goal_found mdf (first_foreign_goal_of b.checkpoints b.count m.goals m.so_far.goals) (limits_fault_of mdf m.limits m.so_far.limits b.parts))
    (Err (Shape.fault (name_line mdf) 14))

-- ## The whole
abbrev pub counts_of : MissionProgress → MissionCounts
counts_of p = record { goals = p.goals; limits = p.limits }

abbrev pub answered_of : Result ⊤ Fault → MissionProgress → MissionReply
answered_of (Ok _) p = Ok (counts_of p, p.file)
answered_of (Err f) p = Err f

-- filled tables: 11, then 14 to 18
unfoldable pub judged_of : Rndf → Bytes → MissionMemory → MissionReply
judged_of b mdf m = pick (room m.so_far (length m.goals) (length m.limits)) (answered_of (refer_of b mdf m) m.so_far) (Err (Shape.fault 0 11))

-- the reply, and what the tables then hold where the MDF is accepted
pub data Read : Type 0 where
  refused : (line number : ℕ) → Read
  accepted : MissionCounts → MissionFileRow → (goals limits : List ℕ) → Read

abbrev pub outcome : MissionReply → (goals limits : List ℕ) → Read
outcome (Ok (c, f)) goals limits = accepted c f goals limits
outcome (Err f) goals limits = refused f.line f.number

abbrev pub from_filled : Rndf → Bytes → Found MissionMemory → Read
from_filled b mdf (fault line number) = refused line number
from_filled b mdf (gathered m) = outcome (judged_of b mdf m) m.goals m.limits

-- cleared tables, and nothing read yet
abbrev pub empty : (goals limits : List ℕ) → MissionMemory
empty goals limits = memory none_read_of (replicate (length goals) 0) (replicate (length limits) 0)

unfoldable pub mission_of : Rndf → Bytes → (goals limits : List ℕ) → Read
mission_of b mdf goals limits = from_filled b mdf (filled_in mdf (empty goals limits))
