-- THE THEOREM of document 01's "Prove that no second reply or memory would satisfy it", for the library's checker of routes (L5): the contract settles every field of the answer and every lent word, for all texts, tables, starts and
-- routes; and one answer and memory satisfy it. Assumes nothing.
use mathlib.Core.Path.{◌≡◌, refl, sym, ap, ◌∙◌}
use mathlib.Core.List.{List}
use Prim.Native.Nat.{ℕ}
use Rattle.terms.specs.Ascii.{Bytes}
use Rattle.law.specs.Tables.{Lent, MissionLent}
use Rattle.edition.specs.declared.Edition.{Edition}
use Rattle.edition.specs.Editions.{inner}
use Rattle.pair_checks.proofs.RouteSettled.{route-settled, route-some}
use Rattle.answer_fields.specs.declared.Answer.{Answer}
use Rattle.answer_fields.specs.Answers.{pair_answer_of, AnswersRoute}

module _ (e : Edition) (start : ℕ) (route : List ℕ) (rndf mdf : Bytes) (t : Lent) (u : MissionLent) where
  -- no second answer, and no second memory
  pub route-answer-settled : (a a' : Answer) (l l' : Lent) (k k' : MissionLent) → AnswersRoute e start route rndf mdf t u a l k → AnswersRoute e start route rndf mdf t u a' l' k'
      → (a ≡ a') × (l ≡ l') × (k ≡ k')
  route-answer-settled a a' l l' k k' x y =
      let same = route-settled (inner e) start route rndf mdf t u x.reply y.reply l l' k k' x.promised y.promised in
      (x.told ∙ ap pair_answer_of same.0 ∙ sym y.told, same.1, same.2)

  -- one there is
  pub route-answer-some : (a : Answer) × (l : Lent) × (k : MissionLent) × AnswersRoute e start route rndf mdf t u a l k
  route-answer-some =
      let x = route-some (inner e) start route rndf mdf t u in
      (pair_answer_of x.reply, x.left, x.mission_left, record { reply = x.reply; promised = x.judged; told = refl })
