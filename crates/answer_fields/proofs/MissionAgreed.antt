-- THE THEOREM of L13 over the library's answers: "L5 has a good route exactly when this, given the room, accepts" (`library-agrees`): kastepuhm_check_route accepts some route exactly if kastepuhm_check_mission, with a row of work space
-- for each point, accepts; in each edition, for all texts, tables and starts, whatever is answered by the contracts. The route is a list of numbers of any length; that those of a good route are rows of the point table, so fit into
-- 32 bits, is not said here. Assumes nothing.
use Rattle.std.specs.Prelude.{Ok, Err}
use Rattle.replies.specs.Types.{PairReply}
use mathlib.Core.Path.{◌≡◌, refl, sym, ap, ◌∙◌}
use mathlib.Core.Logic.{◌↔◌}
use mathlib.Core.List.{List}
use Prim.Native.Nat.{ℕ}
use native.Mathlib.Omega.{arith}
use Rattle.terms.specs.Ascii.{Bytes}
use Rattle.law.specs.Tables.{Lent, MissionLent}
use Rattle.edition.specs.declared.Edition.{Edition}
use Rattle.edition.specs.Editions.{inner, rules_of}
use Rattle.reach_checks.specs.Agree.{IsAcceptance, RowForEachPoint}
use Rattle.reach_checks.proofs.Agreed.{agreed}
use Rattle.answer_fields.specs.declared.Answer.{Answer}
use Rattle.answer_fields.specs.Answers.{pair_answer_of, AnswersRoute, AnswersMission}

-- ## The field of the answer
accepts : (r : PairReply) → (pair_answer_of r).accepted ≡ 1 → IsAcceptance r
accepts (Ok (c, file, d, own)) h = tt
accepts (Err why) h = let z : ◌≡◌ {A = ℕ} 0 1 = h in omega arith

told : (r : PairReply) → IsAcceptance r → (pair_answer_of r).accepted ≡ 1
told (Ok (c, file, d, own)) h = refl
told (Err why) h = absurd h

module _ (e : Edition) (start : ℕ) (rndf mdf : Bytes) (t : Lent) (u : MissionLent) where
  pub record SomeAccepted : Type 0 where
    pub route : List ℕ
    pub given : Answer
    pub left : Lent
    pub mission_left : MissionLent
    pub answers : AnswersRoute e start route rndf mdf t u given left mission_left
    pub accepted : given.accepted ≡ 1

  pub library-agrees : (work : List ℕ) (given : Answer) (left : Lent) (mission_left : MissionLent) (work-left : List ℕ) → RowForEachPoint (rules_of e) rndf mdf t u work → AnswersMission e start rndf mdf t u work given left mission_left work-left
      → SomeAccepted ↔ (given.accepted ≡ 1)
  library-agrees work given left mission_left work-left room a =
      let same = agreed (inner e) start rndf mdf t u work a.reply left mission_left work-left room a.promised in (
        (λ s. ap (λ (x : Answer). x.accepted) a.told ∙ told a.reply (same.0 (record {
          route = s.route;
          reply = s.answers.reply;
          left = s.left;
          mission_left = s.mission_left;
          checked = s.answers.promised;
          accepted = accepts s.answers.reply (ap (λ (x : Answer). x.accepted) (sym s.answers.told) ∙ s.accepted);
        }))),
        (λ h. let s = same.1 (accepts a.reply (ap (λ (x : Answer). x.accepted) (sym a.told) ∙ h)) in record {
          route = s.route;
          given = pair_answer_of s.reply;
          left = s.left;
          mission_left = s.mission_left;
          answers = record { reply = s.reply; promised = s.checked; told = refl };
          accepted = told s.reply s.accepted;
        }),
      )
