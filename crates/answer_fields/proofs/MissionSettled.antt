-- THE THEOREM of document 01's "Prove that no second reply or memory would satisfy it", for the library's answer to the question whether a mission can be driven (L13): the contract settles every field of the answer, every lent word and
-- the work space, for all texts, tables, starts and work spaces; and one answer and memory satisfy it. Assumes nothing.
use mathlib.Core.Path.{◌≡◌, refl, sym, ap, ◌∙◌}
use mathlib.Core.List.{List}
use Prim.Native.Nat.{ℕ}
use Rattle.terms.specs.Ascii.{Bytes}
use Rattle.law.specs.Tables.{Lent, MissionLent}
use Rattle.edition.specs.declared.Edition.{Edition}
use Rattle.edition.specs.Editions.{inner}
use Rattle.reach_checks.proofs.Settled.{mission-settled, mission-some}
use Rattle.answer_fields.specs.declared.Answer.{Answer}
use Rattle.answer_fields.specs.Answers.{pair_answer_of, AnswersMission}

module _ (e : Edition) (start : ℕ) (rndf mdf : Bytes) (t : Lent) (u : MissionLent) (work : List ℕ) where
  -- no second answer, and no second memory
  pub mission-answer-settled : (a a' : Answer) (l l' : Lent) (k k' : MissionLent) (w w' : List ℕ) → AnswersMission e start rndf mdf t u work a l k w → AnswersMission e start rndf mdf t u work a' l' k' w'
      → (a ≡ a') × (l ≡ l') × (k ≡ k') × (w ≡ w')
  mission-answer-settled a a' l l' k k' w w' x y =
      let same = mission-settled (inner e) start rndf mdf t u work x.reply y.reply l l' k k' w w' x.promised y.promised in
      (x.told ∙ ap pair_answer_of same.0 ∙ sym y.told, same.1, same.2, same.3)

  -- one there is
  pub mission-answer-some : (a : Answer) × (l : Lent) × (k : MissionLent) × (w : List ℕ) × AnswersMission e start rndf mdf t u work a l k w
  mission-answer-some =
      let x = mission-some (inner e) start rndf mdf t u work in
      (pair_answer_of x.reply, x.left, x.mission_left, x.work-left, record { reply = x.reply; promised = x.checks; told = refl })
