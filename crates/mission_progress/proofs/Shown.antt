-- THE LAWS of the progress: behind every statement of an MDF it shows what `fill` has there, and the row that a statement gives shows the row of `fill`.
-- Names are shown by their stretches, missing ones as 0, 0; numbers by the kinds. Assumes nothing.
use mathlib.Core.Path.{◌≡◌, refl}
use mathlib.Core.Option.{Option, none, some}
use Prim.Native.Nat.{ℕ, suc, ◌+◌, ◌≤◌, ◌<◌}
use native.Mathlib.Omega.{arith}
use borrow.Author.Tests.{lt-leb}
use Rattle.units.specs.Range.{Speed, Numbered, Identified}
use Rattle.units.specs.Made.{mph, checkpoint_number_of, segment_id_of}
use Rattle.units.proofs.Ranges.{mph-is, checkpoint-number-is, segment-id-is}
use Rattle.rows.specs.Read.{the_stretch_of}
use Rattle.rows.specs.declared.Stretch as Rows
use Rattle.rows.specs.declared.GoalRow.{GoalRow}
use Rattle.rows.specs.declared.LimitRow.{LimitRow}
use Rattle.grammar.specs.MissionStatements.{Kind, Says, Limit, MDF_name_of, RNDF, format_version_of, creation_date_of, checkpoints, num_checkpoints, end_checkpoints, speed_limits, num_speed_limits, end_speed_limits, end_file_of, goal, limit}
use Rattle.grammar.specs.Tables.{MissionFileRow}
use Rattle.fill.specs.Counts.{MissionCounts}
use Rattle.fill.specs.Tally.{no_mission_counts, mission_tally}
use Rattle.fill.specs.MissionRows.{Row, nothing, a_goal, a_limit, gives, start, next}
use Rattle.statement.specs.Meaning.{Stretch, stretch}
use Rattle.statement.specs.MissionKinds.{of_kind}
use Rattle.statement.specs.declared.Order.{Order}
use Rattle.statement.specs.declared.Order.TheVariants as o
use Rattle.mission_progress.specs.declared.MissionProgress.{MissionProgress}
use Rattle.mission_progress.specs.declared.MissionRow.{MissionRow}
use Rattle.mission_progress.specs.declared.MissionRow.TheVariants as M
use Rattle.mission_progress.specs.Progress.{missing_name, none_read_of, total, file_after_of, mission_row_of, counted_of, mission_after_of, mission_after_within}

-- ## What is shown
abbrev pub shown_name : Stretch → Rows.Stretch
shown_name v = the_stretch_of v.start v.length

-- 01: "a missing name is 0, 0"
abbrev pub shown-perhaps : Option Stretch → Rows.Stretch
shown-perhaps none = missing_name
shown-perhaps (some v) = shown_name v

abbrev pub shown : MissionFileRow Stretch → MissionCounts → MissionProgress
shown f c = record {
  file = record { name = shown_name f.name; rndf = shown_name f.rndf; version = shown-perhaps f.version; date = shown-perhaps f.date };
  goals = c.goals;
  limits = c.limits;
}

abbrev pub shown_goal : ℕ → GoalRow
shown_goal n = record { number = checkpoint_number_of n }

abbrev pub shown_limit : Limit → LimitRow
shown_limit l = record { id = segment_id_of l.id; minimum = mph l.minimum; maximum = mph l.maximum }

abbrev pub shown_row : Row → MissionRow
shown_row nothing = M.Nothing
shown_row (a_goal n) = M.Goal (shown_goal n)
shown_row (a_limit l) = M.Limit (shown_limit l)

-- ## Before the first statement, and behind each
pub none-shown : none_read_of ≡ shown (start (stretch 0 0)) no_mission_counts
none-shown = refl

plus_one : (n : ℕ) → n + 1 ≡ suc n
plus_one n = omega arith

pub after-shown : (k : Kind) (v : Says Stretch k) (f : MissionFileRow Stretch) (c : MissionCounts) → mission_after_of (of_kind k v) (shown f c) ≡ shown (next k v f) (mission_tally k c)
unfolding mission_after_of counted_of file_after_of
after-shown MDF_name_of v f c = refl
after-shown RNDF v f c = refl
after-shown format_version_of v f c = refl
after-shown creation_date_of v f c = refl
after-shown checkpoints v f c = refl
after-shown num_checkpoints v f c = refl
after-shown end_checkpoints v f c = refl
after-shown speed_limits v f c = refl
after-shown num_speed_limits v f c = refl
after-shown end_speed_limits v f c = refl
after-shown end_file_of v f c = refl
after-shown goal v f c = rw (plus_one c.goals)
after-shown limit v f c = rw (plus_one c.limits)

-- where its numbers are of their kinds
abbrev pub Fits : Row → Type 0
Fits nothing = Unit {0}
Fits (a_goal n) = Numbered n
Fits (a_limit l) = Identified l.id × (Speed l.minimum × Speed l.maximum)

pub row-shown : (k : Kind) (v : Says Stretch k) → Fits (gives Stretch k v) → mission_row_of (of_kind k v) ≡ shown_row (gives Stretch k v)
unfolding mission_row_of
row-shown MDF_name_of v h = refl
row-shown RNDF v h = refl
row-shown format_version_of v h = refl
row-shown creation_date_of v h = refl
row-shown checkpoints v h = refl
row-shown num_checkpoints v h = refl
row-shown end_checkpoints v h = refl
row-shown speed_limits v h = refl
row-shown num_speed_limits v h = refl
row-shown end_speed_limits v h = refl
row-shown end_file_of v h = refl
row-shown goal v h = rw (checkpoint-number-is h) refl
row-shown limit v h = rw (segment-id-is h.0, mph-is h.1.0, mph-is h.1.1) refl

-- ## For a loop
-- the program counts on as long as there is room for one row more
pub counts : (s : Order) (p : MissionProgress) → total p < 4294967295 → mission_after_within s p ≡ mission_after_of s p
unfolding mission_after_within
counts s p h = rw (lt-leb 4294967295 (total p) h)

-- one statement counts at most one row
pub grows : (s : Order) (p : MissionProgress) → total (mission_after_of s p) ≤ total p + 1
unfolding mission_after_of counted_of
grows (o.MdfName a l) p = omega arith
grows (o.Rndf a l) p = omega arith
grows (o.FormatVersion a l) p = omega arith
grows (o.CreationDate a l) p = omega arith
grows o.Checkpoints p = omega arith
grows (o.NumCheckpoints n) p = omega arith
grows o.EndCheckpoints p = omega arith
grows o.SpeedLimits p = omega arith
grows (o.NumSpeedLimits n) p = omega arith
grows o.EndSpeedLimits p = omega arith
grows o.EndFile p = omega arith
grows (o.Goal n) p = omega arith
grows (o.Limit i a b) p = omega arith
