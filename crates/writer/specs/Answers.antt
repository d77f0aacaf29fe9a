-- What is answered, and what the output holds, once the reader replied and the bytes x went to an output of `lent` bytes where it accepted. The contracts of inner functions cite it. Assumes nothing.
use Rattle.writings.specs.Types.{WriteMdfReply, WriteReply}
use Rattle.replies.specs.Types.{PairReply, RndfReply}
use Rattle.std.specs.Prelude.{◌≡◌, ℕ, length, Ok, Err}
use Rattle.terms.specs.Ascii.{Bytes}
use Rattle.rows.specs.declared.FileRow.{FileRow}
use Rattle.rows.specs.declared.MissionFileRow.{MissionFileRow}
use Rattle.counts.specs.declared.Counts.{Counts}
use Rattle.counts.specs.declared.MissionCounts.{MissionCounts}
use Rattle.refusal.specs.declared.Refusal.{Refusal}
use Rattle.replies.specs.Replies.{refusal}
use Rattle.output.specs.Output.{zero_bytes, Fits, padded}

pub data Answers (read : RndfReply) (lent : ℕ) (x out : Bytes) (answer : WriteReply) : Type 0 where
  as_read : (why : Refusal) → read ≡ Err why → answer ≡ Err why → out ≡ zero_bytes lent → Answers read lent x out answer
  over : (c : Counts) (file : FileRow) → read ≡ Ok (c, file) → (Fits lent x → ⊥) → answer ≡ Err (refusal 1 0 19 0) → out ≡ zero_bytes lent → Answers read lent x out answer
  put : (c : Counts) (file : FileRow) → read ≡ Ok (c, file) → Fits lent x → answer ≡ Ok (c, file, length x) → out ≡ padded lent x → Answers read lent x out answer

pub data AnswersMdf (read : PairReply) (lent : ℕ) (x out : Bytes) (answer : WriteMdfReply) : Type 0 where
  as_read : (why : Refusal) → read ≡ Err why → answer ≡ Err why → out ≡ zero_bytes lent → AnswersMdf read lent x out answer
  over : (c : Counts) (file : FileRow) (d : MissionCounts) (row : MissionFileRow) → read ≡ Ok (c, file, d, row) → (Fits lent x → ⊥) → answer ≡ Err (refusal 2 0 19 0) → out ≡ zero_bytes lent → AnswersMdf read lent x out answer
  put : (c : Counts) (file : FileRow) (d : MissionCounts) (row : MissionFileRow) → read ≡ Ok (c, file, d, row) → Fits lent x → answer ≡ Ok (c, file, d, row, length x) → out ≡ padded lent x → AnswersMdf read lent x out answer
