-- What the reader of an MDF replies, as Rust's `Result`. Assumes nothing.
use Rattle.std.specs.Prelude.{Result}
use Rattle.counts.specs.declared.MissionCounts.{MissionCounts}
use Rattle.rows.specs.declared.MissionFileRow.{MissionFileRow}
use Rattle.refusal.specs.declared.Fault.{Fault}

-- The rows used and the file's own row; or what is at fault.
abbrev pub MissionReply : Type 0
MissionReply = Result (MissionCounts × MissionFileRow) Fault
