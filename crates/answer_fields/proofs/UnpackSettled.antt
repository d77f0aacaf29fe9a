-- THE THEOREM of document 01's "Prove that no second reply or memory would satisfy it", for the library's unpacking (L11): the contract settles every field of the answer and every lent word, for all bytes and
-- tables; and one answer and memory satisfy it, where a byte is a number below 256. Assumes nothing.
use mathlib.Core.Path.{◌≡◌, refl, sym, ap, ◌∙◌}
use Prim.Native.Nat.{◌<◌}
use Rattle.terms.specs.Ascii.{Bytes}
use Rattle.terms.specs.Words.{Each}
use Rattle.law.specs.Tables.{Lent}
use Rattle.unpackings.proofs.Settled.{unpack-settled}
use Rattle.packed_tables.proofs.Some.{unpack-some}
use Rattle.answer_fields.specs.declared.Answer.{Answer}
use Rattle.answer_fields.specs.Answers.{rndf_answer_of, AnswersUnpack}

module _ (bytes : Bytes) (t : Lent) where
  -- no second answer, and no second memory
  pub unpack-answer-settled : (a a' : Answer) (l l' : Lent) → AnswersUnpack bytes t a l → AnswersUnpack bytes t a' l' → (a ≡ a') × (l ≡ l')
  unpack-answer-settled a a' l l' x y =
      let same = unpack-settled bytes t x.reply y.reply l l' x.promised y.promised in
      (x.told ∙ ap rndf_answer_of same.0 ∙ sym y.told, same.1)

  -- one there is
  pub unpack-answer-some : Each (λ b. b < 256) bytes → (a : Answer) × (l : Lent) × AnswersUnpack bytes t a l
  unpack-answer-some small =
      let x = unpack-some bytes t small in
      (rndf_answer_of x.0, x.1.0, record { reply = x.0; promised = x.1.1; told = refl })
