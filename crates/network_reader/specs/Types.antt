-- What the reader of an RNDF replies, as Rust's `Result`. Assumes nothing.
use Rattle.std.specs.Prelude.{Result}
use Rattle.counts.specs.declared.Counts.{Counts}
use Rattle.rows.specs.declared.FileRow.{FileRow}
use Rattle.refusal.specs.declared.Fault.{Fault}

-- The rows used and the file's own row; or what is at fault.
abbrev pub NetworkReply : Type 0
NetworkReply = Result (Counts × FileRow) Fault
