-- What is answered, and what the output holds, once the reader replied and the map of what the tables hold went to an output of `lent` bytes where it accepted. The contracts of inner functions cite it. Assumes nothing.
use Rattle.writings.specs.Types.{WriteReply}
use Rattle.replies.specs.Types.{RndfReply}
use Rattle.std.specs.Prelude.{◌≡◌, List, ℕ, ℤ, Some, None, Ok, Err}
use Rattle.terms.specs.Ascii.{Bytes}
use Rattle.rows.specs.declared.FileRow.{FileRow}
use Rattle.counts.specs.declared.Counts.{Counts}
use Rattle.refusal.specs.declared.Refusal.{Refusal}
use Rattle.replies.specs.Replies.{refusal}
use Rattle.output.specs.Output.{zero_bytes}
use Rattle.output.specs.Pen.{Pen, pen, Finishes}
use Rattle.features.specs.Drawn.{drawn}

-- the pen behind the map of what these tables hold, over a cleared output
abbrev pub whole : Bytes → (segments lanes zones spots : List ℕ) → List ℤ → (checkpoints : List ℕ) → (lent : ℕ) → Counts → Pen
whole text segments lanes zones spots points checkpoints lent c = drawn text segments lanes zones spots points checkpoints c (pen (zero_bytes lent) 0)

pub data Answers (read : RndfReply) (lent : ℕ) (end : Counts → Pen) (out : Bytes) (answer : WriteReply) : Type 0 where
  as_read : (why : Refusal) → read ≡ Err why → answer ≡ Err why → out ≡ zero_bytes lent → Answers read lent end out answer
  over : (c : Counts) (file : FileRow) → read ≡ Ok (c, file) → Finishes (end c).out (end c).at out None → answer ≡ Err (refusal 1 0 19 0) → Answers read lent end out answer
  put : (c : Counts) (file : FileRow) (k : ℕ) → read ≡ Ok (c, file) → Finishes (end c).out (end c).at out (Some k) → answer ≡ Ok (c, file, k) → Answers read lent end out answer
