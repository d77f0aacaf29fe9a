-- THE THEOREM of document 01's "Prove that no second reply or memory would satisfy it", for the library's mending (L9): the contract settles the answer, every number of the lent list and every byte of
-- the lent output, for every text, list and output; one there is; and an answer tells the whole reply. Assumes nothing.
use Rattle.std.specs.Prelude.{Ok, Err}
use Rattle.mend_law.specs.Types.{MendReply}
use mathlib.Core.Path.{◌≡◌, refl, sym, ap, ◌∙◌}
use mathlib.Core.List.{List}
use Prim.Native.Nat.{ℕ}
use native.Mathlib.Omega.{arith}
use Rattle.terms.specs.Ascii.{Bytes}
use Rattle.edition.specs.declared.Edition.{Edition}
use Rattle.edition.specs.Editions.{inner, rules_of}
use Rattle.mend_law.proofs.Settled.{mend-settled, mend-some}
use Rattle.answer_fields.specs.declared.MendAnswer.{MendAnswer}
use Rattle.answer_fields.specs.Answers.{mend_answer_of, AnswersMend}

module _ (edition : Edition) (text : Bytes) (list : List ℕ) (lent : ℕ) where
  -- no second answer, no second list and no second output
  pub mend-answer-settled : (a a' : MendAnswer) (l l' : List ℕ) (o o' : Bytes) → AnswersMend edition text list lent a l o → AnswersMend edition text list lent a' l' o' → (a ≡ a') × (l ≡ l') × (o ≡ o')
  mend-answer-settled a a' l l' o o' x y =
      let same = mend-settled (rules_of edition) text list lent x.reply y.reply l l' o o' x.promised y.promised in
      (x.told ∙ ap mend_answer_of same.0 ∙ sym y.told, same.1, same.2)

  -- one there is
  pub mend-answer-some : (a : MendAnswer) × (l : List ℕ) × (o : Bytes) × AnswersMend edition text list lent a l o
  mend-answer-some =
      let x = mend-some (inner edition) text list lent in
      (mend_answer_of x.reply, x.left, x.out, record { reply = x.reply; promised = x.mends; told = refl })

-- one reply for one answer
pub mend-told-whole : (x y : MendReply) → mend_answer_of x ≡ mend_answer_of y → x ≡ y
mend-told-whole (Ok (m, n)) (Ok (m', n')) e = ap (λ (a : MendAnswer). Ok (a.rows, a.length)) e
mend-told-whole (Ok (m, n)) (Err y) e = absurd (let z : ◌≡◌ {A = ℕ} 1 0 = ap (λ (a : MendAnswer). a.accepted) e in omega arith)
mend-told-whole (Err x) (Ok (m, n)) e = absurd (let z : ◌≡◌ {A = ℕ} 0 1 = ap (λ (a : MendAnswer). a.accepted) e in omega arith)
mend-told-whole (Err x) (Err y) e = ap (λ (a : MendAnswer). Err (record { file = a.file; line = a.line; number = a.number; column = a.column })) e
