-- Executable: the tests, over the numbers that were there. Document 01, "Refusal numbers", 13 and 15 to 17.
-- That they are `fill`'s first faults over the tables of a network and of a mission are laws (`references`, proofs/Repeats; `mission_references`, proofs/Laws). Assumes nothing.
use Rattle.std.specs.Prelude.{List, [], Bool, false, not, ℕ, min, eqb, Some, None}
use Rattle.std.proofs.Math.Option.{Option, none, some}
use Rattle.terms.specs.Words.{pick}
use Rattle.units.specs.Range.{largest}
use Rattle.units.specs.Made.{within}
use Rattle.fill.specs.FirstFaults.{Fault, fault_if, or_else, is_among, in_parts, first_fault}
use Rattle.marks.specs.declared.BadLimit.{BadLimit}
use Rattle.marks.specs.declared.BadLimit.TheVariants as Limit
use Rattle.marks.specs.Rows.{checkpoint_says, goal_says, limit_says, said}
use Rattle.std.specs.Prelude as Rust

-- Is the number among these? A lent table may hold any number; one that is no number of a checkpoint or of a part (0, or above 32,768) is never there
abbrev pub seen : List ℕ → ℕ → Bool
seen numbers a = pick (within 1 a) (is_among a numbers) false

abbrev pub row_of : Option Fault → Rust.Option ℕ
row_of none = None
row_of (some f) = Some f.row

-- ## Checkpoint numbers
-- 01, 13: "checkpoint number already declared"
abbrev pub repeated : List ℕ → ℕ → Option ℕ
repeated front a = fault_if (seen front a) 13

unfoldable pub first_repeat_of : (checkpoints : List ℕ) (count : ℕ) → Rust.Option ℕ
first_repeat_of t n = row_of (first_fault repeated [] (said (checkpoint_says t) n))

-- ## Goals
-- 01, 15: "goal not a checkpoint of the RNDF"
abbrev pub foreign : List ℕ → List ℕ → ℕ → Option ℕ
foreign numbers front a = fault_if (not (seen numbers a)) 15

unfoldable pub first_foreign_goal_of : (checkpoints : List ℕ) (checkpointCount : ℕ) (goals : List ℕ) (goalCount : ℕ) → Rust.Option ℕ
first_foreign_goal_of checkpoints m goals n = row_of (first_fault (foreign (said (checkpoint_says checkpoints) m)) [] (said (goal_says goals) n))

-- ## Limits
-- 01: "segments 1 to M; zones M+1 to M+N", "M + N ≤ 32,768": the ids are 1 to `parts`, and no number above 32,768 is an id
abbrev pub ids_to : ℕ → ℕ
ids_to parts = min parts largest

-- 01, 16: "limit's id not in the RNDF"; 17: "limit's id already given"
abbrev pub unfitting : ℕ → List ℕ → ℕ → Option ℕ
unfitting parts front i = or_else (fault_if (not (in_parts (ids_to parts) i)) 16) (fault_if (seen front i) 17)

-- 16, else 17
abbrev pub bad_limit : Option Fault → BadLimit
bad_limit none = Limit.Nothing
bad_limit (some f) = pick (eqb f.number 16) (Limit.NotThere f.row) (Limit.Again f.row)

unfoldable pub first_bad_limit_of : (limits : List ℕ) (limitCount parts : ℕ) → BadLimit
first_bad_limit_of limits n parts = bad_limit (first_fault (unfitting parts) [] (said (limit_says limits) n))
