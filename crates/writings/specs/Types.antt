-- WHAT A READER MUST BELIEVE. What a writing replies, as Rust's `Result`. Assumes nothing.
use Rattle.std.specs.Prelude.{ℕ, Result}
use Rattle.counts.specs.declared.Counts.{Counts}
use Rattle.counts.specs.declared.MissionCounts.{MissionCounts}
use Rattle.rows.specs.declared.FileRow.{FileRow}
use Rattle.rows.specs.declared.MissionFileRow.{MissionFileRow}
use Rattle.refusal.specs.declared.Refusal.{Refusal}

-- An RNDF: what the reader replies and how many bytes were written; or a refusal.
abbrev pub WriteReply : Type 0
WriteReply = Result (Counts × FileRow × ℕ) Refusal

-- The MDF of a pair, likewise.
abbrev pub WriteMdfReply : Type 0
WriteMdfReply = Result (Counts × FileRow × MissionCounts × MissionFileRow × ℕ) Refusal
