-- WHAT A READER MUST BELIEVE. What the planners' program puts out of packed bytes: the sentence of what the unpacker replies to them. Assumes nothing.
use Rattle.replies.specs.Types.{RndfReply}
use Rattle.std.specs.Prelude.{[], ℕ}
use Rattle.terms.specs.Ascii.{Bytes}
use Rattle.law.specs.Tables.{Lent}
use Rattle.unpackings.specs.Unpacks.{Unpacks}
use Rattle.answers.specs.Answers.{rndf_answer_of}
use Rattle.output.specs.Pen.{pen, Wrote}

-- a file of this name, unpacked into tables t: `left` they are then, and the first n bytes of the output are the sentence. It shows no line, and no MDF stands behind it
pub record TellsPacked (name bytes : Bytes) (t left : Lent) (before after : Bytes) (n : ℕ) : Type 0 where
  pub reply : RndfReply
  pub read : Unpacks bytes t reply left
  pub told : Wrote (pen before 0) (rndf_answer_of name [] [] reply) (pen after n)
