-- WHAT A READER MUST BELIEVE. What the entry points reply, as Rust's `Result`: what is read, or the refusal. Assumes nothing.
use Rattle.std.specs.Prelude.{Result}
use Rattle.counts.specs.declared.Counts.{Counts}
use Rattle.counts.specs.declared.MissionCounts.{MissionCounts}
use Rattle.rows.specs.declared.FileRow.{FileRow}
use Rattle.rows.specs.declared.MissionFileRow.{MissionFileRow}
use Rattle.refusal.specs.declared.Refusal.{Refusal}

-- An RNDF alone: the rows used of each table and the file's own row; or a refusal.
abbrev pub RndfReply : Type 0
RndfReply = Result (Counts × FileRow) Refusal

-- An RNDF with its MDF: the rows used and the file's own row, of both; or a refusal.
abbrev pub PairReply : Type 0
PairReply = Result (Counts × FileRow × MissionCounts × MissionFileRow) Refusal
