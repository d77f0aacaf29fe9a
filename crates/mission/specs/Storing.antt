-- Executable: what is gathered in a walk over an MDF: what there is so far, and the lent tables; and a row stored in them. Assumes nothing.
use Rattle.std.specs.Prelude.{List, ℕ}
use Rattle.rows.specs.Lay.{put_row_of}
use Rattle.rows.specs.Columns.{goal_words_of, limit_words_of}
use Rattle.rows.specs.Strides.{goal_stride, limit_stride}
use Rattle.mission_progress.specs.declared.MissionProgress.{MissionProgress}
use Rattle.mission_progress.specs.declared.MissionRow.{MissionRow}
use Rattle.mission_progress.specs.declared.MissionRow.TheVariants as Row

pub record MissionMemory : Type 0 where
  pub so_far : MissionProgress
  pub goals : List ℕ
  pub limits : List ℕ

abbrev pub memory : MissionProgress → (goals limits : List ℕ) → MissionMemory
memory p g l = record { so_far = p; goals = g; limits = l }

unfoldable pub stored : MissionRow → MissionMemory → MissionMemory
stored Row.Nothing m = m
stored (Row.Goal a) m = memory m.so_far (put_row_of goal_stride m.goals m.so_far.goals (goal_words_of a)) m.limits
stored (Row.Limit a) m = memory m.so_far m.goals (put_row_of limit_stride m.limits m.so_far.limits (limit_words_of a))
