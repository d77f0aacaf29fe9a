-- THE THEOREM of document 01's "Prove that no second reply or memory would satisfy it", for the library's look-up of a list (L4): the contract settles the answer and every number of the
-- lent list, for every table and every list; one there is; and an answer tells the whole reply. Assumes nothing.
use Rattle.std.specs.Prelude.{Ok, Err}
use Rattle.look_up.specs.Types.{ListReply}
use mathlib.Core.Path.{◌≡◌, refl, sym, ap, ◌∙◌}
use mathlib.Core.List.{List}
use Prim.Native.Nat.{ℕ}
use native.Mathlib.Omega.{arith}
use Rattle.look_up.proofs.ListSettled.{settled, some-answer}
use Rattle.answer_fields.specs.declared.ListAnswer.{ListAnswer}
use Rattle.answer_fields.specs.Answers.{list_answer_of, AnswersList}

-- no second answer, and no second list
pub list-answer-settled : (t numbers : List ℕ) (lent : ℕ) (a a' : ListAnswer) (l l' : List ℕ) → AnswersList t numbers lent a l → AnswersList t numbers lent a' l' → (a ≡ a') × (l ≡ l')
list-answer-settled t numbers lent a a' l l' x y =
    let same = settled t numbers lent x.reply y.reply l l' x.promised y.promised in
    (x.told ∙ ap list_answer_of same.0 ∙ sym y.told, same.1)

-- one there is
pub list-answer-some : (t numbers : List ℕ) (lent : ℕ) → (a : ListAnswer) × (l : List ℕ) × AnswersList t numbers lent a l
list-answer-some t numbers lent =
    let x = some-answer t numbers lent in
    (list_answer_of x.reply, x.left, record { reply = x.reply; promised = x.right; told = refl })

-- one reply for one answer
pub list-told-whole : (x y : ListReply) → list_answer_of x ≡ list_answer_of y → x ≡ y
list-told-whole (Ok _) (Ok _) e = refl
list-told-whole (Ok _) (Err y) e = absurd (let z : ◌≡◌ {A = ℕ} 1 0 = ap (λ (a : ListAnswer). a.accepted) e in omega arith)
list-told-whole (Err x) (Ok _) e = absurd (let z : ◌≡◌ {A = ℕ} 0 1 = ap (λ (a : ListAnswer). a.accepted) e in omega arith)
list-told-whole (Err x) (Err y) e = ap (λ (a : ListAnswer). Err (record { file = a.file; line = a.line; number = a.number; column = a.column })) e
