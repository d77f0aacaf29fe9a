-- WHAT A READER MUST BELIEVE. What the planners' program puts out of texts: the sentence of what the readers reply to them, and behind a refusal what may stand there. Assumes nothing.
use Rattle.replies.specs.Types.{PairReply, RndfReply}
use Rattle.std.specs.Prelude.{[], ◌++◌, ℕ, Ok, Err}
use Rattle.terms.specs.Ascii.{Bytes}
use Rattle.edition.specs.declared.Edition.{Edition}
use Rattle.edition.specs.Editions.{rules_of}
use Rattle.law.specs.Tables.{Lent, MissionLent}
use Rattle.refusal.specs.declared.Refusal.{Refusal}
use Rattle.replies.specs.Replies.{ReadsRndf, ReadsPair}
use Rattle.answers.specs.Answers.{rndf_answer_of, pair_answer_of}
use Rattle.expected.specs.Words.{expected_words_of, line_of}
use Rattle.output.specs.Pen.{pen, Wrote}

-- what may stand where these texts were refused, on a line of its own. That the words are those of the law is expected/proofs/Right
unfoldable pub may_stand : Edition → (rndf mdf : Bytes) → Refusal → Bytes
may_stand edition rndf mdf why = line_of (expected_words_of edition rndf mdf why.file why.line why.number)

-- by the reply; of an RNDF alone there is no MDF
unfoldable pub rndf_may_stand : Edition → (rndf : Bytes) → RndfReply → Bytes
rndf_may_stand edition rndf (Ok (c, file)) = []
rndf_may_stand edition rndf (Err why) = may_stand edition rndf [] why

unfoldable pub pair_may_stand : Edition → (rndf mdf : Bytes) → PairReply → Bytes
pair_may_stand edition rndf mdf (Ok (c, file, m, mission_file_of)) = []
pair_may_stand edition rndf mdf (Err why) = may_stand edition rndf mdf why

-- an RNDF of this name, read by an edition into tables t: `left` they are then, and the first n bytes of the output are the sentence and that line. `trouble` is what is the matter with its MDF,
-- which is told where nothing is with the RNDF
pub record TellsRndf (edition : Edition) (name text trouble : Bytes) (t left : Lent) (before after : Bytes) (n : ℕ) : Type 0 where
  pub reply : RndfReply
  pub read : ReadsRndf (rules_of edition) text t reply left
  pub told : Wrote (pen before 0) (rndf_answer_of name text trouble reply ++ rndf_may_stand edition text reply) (pen after n)

-- an RNDF with its MDF
pub record TellsPair (edition : Edition) (rndf-name mdf-name rndf mdf : Bytes) (t : Lent) (u : MissionLent) (left : Lent) (mission_left : MissionLent) (before after : Bytes) (n : ℕ) : Type 0 where
  pub reply : PairReply
  pub read : ReadsPair (rules_of edition) rndf mdf t u reply left mission_left
  pub told : Wrote (pen before 0) (pair_answer_of rndf-name mdf-name rndf mdf reply ++ pair_may_stand edition rndf mdf reply) (pen after n)
