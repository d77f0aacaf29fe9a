-- The refusal that each answer stands for. Document 01, "Refusal numbers". Assumes nothing.
use Rattle.std.specs.Prelude.{ℕ, Some, None}
use Rattle.std.proofs.Math.Option.{Option, none, some}
use Rattle.fill.specs.FirstFaults.{Fault, fault}
use Rattle.marks.specs.declared.BadLimit.{BadLimit}
use Rattle.marks.specs.declared.BadLimit.TheVariants as Limit
use Rattle.std.specs.Prelude as Rust

-- 01, 15: "goal not a checkpoint of the RNDF"
abbrev pub goal_refusal : Rust.Option ℕ → Option Fault
goal_refusal (Some row) = some (fault row 15)
goal_refusal None = none

-- 01, 16: "limit's id not in the RNDF"; 17: "limit's id already given"
abbrev pub limit_refusal : BadLimit → Option Fault
limit_refusal (Limit.NotThere row) = some (fault row 16)
limit_refusal (Limit.Again row) = some (fault row 17)
limit_refusal Limit.Nothing = none
