-- THE THEOREMS of the planners' program, from its contracts: of a refused text the sentence of its refusal is put, with the name and the line of the file that is at
-- fault, by the edition that was asked for, whatever is the matter with an RNDF's MDF, and behind it, on a line of its own, what the law says may stand there; of an accepted RNDF whose MDF can't be taken, why. (That these contracts settle the reply is the readers' theorem, reader/proofs/Settled.) Assumes nothing.
use Rattle.std.specs.Prelude.{Ok, Err}
use Rattle.replies.specs.Types.{PairReply, RndfReply}
use mathlib.Core.Path.{◌≡◌, refl, ap, ◌∙◌}
use mathlib.Core.List.{[], ◌++◌, append-nil}
use Prim.Native.Nat.{ℕ, ◌<◌}
use lib.ListN.{length}
use borrow.Author.Tests.{lt-ltb}
use Rattle.terms.specs.Ascii.{Bytes}
use Rattle.line.specs.Content.{Field}
use Rattle.grammar.specs.Network.{Network}
use Rattle.edition.specs.declared.Edition.{Edition}
use Rattle.edition.specs.Editions.{inner, rules_of}
use Rattle.law.specs.Tables.{Lent, MissionLent, zeros, mission_zeros, filled}
use Rattle.replies.specs.Replies.{refusal, rows_used_of, network_file, accepted, refused, rndf_refused_of, mdf_refused_of}
use Rattle.replies.specs.Short.{AcceptsRndf, RefusesRndf, RefusesMdf}
use Rattle.replies.proofs.Settled.{rndf-settled, pair-settled}
use Rattle.output.specs.Pen.{pen, Wrote}
use Rattle.output.proofs.Writing.{same}
use Rattle.answers.specs.Answers as A
use Rattle.answers.specs.Answers.{sentence, rndf_accepted, rndf_answer_of, pair_answer_of}
use Rattle.expected_law.specs.Tells.{TellsExpected}
use Rattle.expected.specs.Words.{expected_words_of, line_of}
use Rattle.expected.proofs.Right.{right}
use Rattle.yard_check.specs.Tells.{may_stand, rndf_may_stand, pair_may_stand, TellsRndf, TellsPair}

-- the sentence of a refusal, of the file with this name and text, and what may stand there
pub record SaysRefused (e : Edition) (rndf mdf name text : Bytes) (file line number column : ℕ) (before after : Bytes) (n : ℕ) : Type 0 where
  pub words : Bytes
  pub right : TellsExpected e rndf mdf file line number words
  pub said : Wrote (pen before 0) (sentence name text line number column ++ line_of words) (pen after n)

said-so : (e : Edition) (rndf mdf name text : Bytes) (file line number column : ℕ) (before after : Bytes) (n : ℕ) → Wrote (pen before 0) (sentence name text line number column ++ line_of (expected_words_of e rndf mdf file line number)) (pen after n) → SaysRefused e rndf mdf name text file line number column before after n
said-so e rndf mdf name text file line number column before after n w = record { words = expected_words_of e rndf mdf file line number; right = right e rndf mdf file line number; said = w }

-- an RNDF alone, whatever is the matter with its MDF
pub rndf-told : (e : Edition) (name text trouble : Bytes) (t left : Lent) (before after : Bytes) (n line number column : ℕ) → TellsRndf e name text trouble t left before after n → RefusesRndf (rules_of e) text t line number column
    → SaysRefused e text [] name text 1 line number column before after n
unfolding rndf_answer_of rndf_may_stand may_stand
rndf-told e name text trouble t left before after n line number column x h =
    said-so e text [] name text 1 line number column before after n
    (same (ap (λ (r : RndfReply). rndf_answer_of name text trouble r ++ rndf_may_stand e text r) (rndf-settled (inner e) text t x.reply (Err (refusal 1 line number column)) left (zeros t) x.read (refused line number column h refl refl)).0) x.told)

-- an accepted one: what is the matter with its MDF
pub trouble-told : (e : Edition) (name text trouble : Bytes) (t left : Lent) (before after : Bytes) (n : ℕ) (m : Network Field) → TellsRndf e name text trouble t left before after n → AcceptsRndf (rules_of e) text t m → 0 < length trouble
    → Wrote (pen before 0) trouble (pen after n)
unfolding rndf_answer_of rndf_accepted rndf_may_stand
trouble-told e name text trouble t left before after n m x a h =
    let said : rndf_answer_of name text trouble (Ok (rows_used_of m, network_file m)) ++ [] ≡ trouble = append-nil (rndf_answer_of name text trouble (Ok (rows_used_of m, network_file m))) ∙ rw (lt-ltb 0 (length trouble) h) refl in
    same (ap (λ (r : RndfReply). rndf_answer_of name text trouble r ++ rndf_may_stand e text r) (rndf-settled (inner e) text t x.reply (Ok (rows_used_of m, network_file m)) left (filled m t) x.read (accepted m a refl refl)).0 ∙ said) x.told

-- an RNDF with its MDF
module _ (e : Edition) (rndf-name mdf-name rndf mdf : Bytes) (t : Lent) (u : MissionLent) (left : Lent) (mission_left : MissionLent) (before after : Bytes) (n : ℕ) (x : TellsPair e rndf-name mdf-name rndf mdf t u left mission_left before after n) where
  abbrev told-of-pair : PairReply → Bytes
  told-of-pair r = pair_answer_of rndf-name mdf-name rndf mdf r ++ pair_may_stand e rndf mdf r

  pub rndf-of-pair-told : (line number column : ℕ) → RefusesRndf (rules_of e) rndf t line number column → SaysRefused e rndf mdf rndf-name rndf 1 line number column before after n
  unfolding pair_answer_of A.refused pair_may_stand may_stand
  rndf-of-pair-told line number column h =
      said-so e rndf mdf rndf-name rndf 1 line number column before after n
      (same (ap told-of-pair (pair-settled (inner e) rndf mdf t u x.reply (Err (refusal 1 line number column)) left (zeros t) mission_left (mission_zeros u) x.read (rndf_refused_of line number column h refl refl refl)).0) x.told)

  pub mdf-of-pair-told : (m : Network Field) (line number column : ℕ) → AcceptsRndf (rules_of e) rndf t m → RefusesMdf (rules_of e) m mdf u line number column → SaysRefused e rndf mdf mdf-name mdf 2 line number column before after n
  unfolding pair_answer_of A.refused pair_may_stand may_stand
  mdf-of-pair-told m line number column a h =
      said-so e rndf mdf mdf-name mdf 2 line number column before after n
      (same (ap told-of-pair (pair-settled (inner e) rndf mdf t u x.reply (Err (refusal 2 line number column)) left (zeros t) mission_left (mission_zeros u) x.read (mdf_refused_of m line number column a h refl refl refl)).0) x.told)
