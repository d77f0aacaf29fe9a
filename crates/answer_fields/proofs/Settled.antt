-- THE THEOREM of document 01's "Prove that no second reply or memory would satisfy it", for C and Rust: the contract settles every field of the answer, every lent word
-- and every byte of a lent output, for all texts, all lent tables and all outputs; and some answer and memory satisfy it. Assumes nothing.
use mathlib.Core.Path.{◌≡◌, refl, sym, ap, ◌∙◌}
use Prim.Native.Nat.{ℕ}
use Rattle.terms.specs.Ascii.{Bytes}
use Rattle.line.specs.Content.{Field}
use Rattle.edition.specs.declared.Edition.{Edition}
use Rattle.edition.specs.Editions.{inner}
use Rattle.law.specs.Network.{Network}
use Rattle.law.specs.Tables.{Lent, MissionLent}
use Rattle.replies.proofs.Settled.{rndf-settled, rndf-some}
use Rattle.replies.proofs.Settled.{pair-settled, pair-some}
use Rattle.house_text.specs.House.{HouseRndf}
use Rattle.writings.specs.Writes.{MapOf, PackedOf}
use Rattle.writings.proofs.OneWriting.{OneWriting, house-one, map-one, packed-one}
use Rattle.writings.proofs.Settled.{write-settled, write-some}
use Rattle.writings.proofs.MdfSettled.{mdf-write-settled, mdf-write-some}
use Rattle.answer_fields.specs.declared.Answer.{Answer}
use Rattle.answer_fields.specs.declared.WriteAnswer.{WriteAnswer}
use Rattle.answer_fields.specs.Answers.{rndf_answer_of, pair_answer_of, write_answer_of, write_mdf_answer_of, AnswersRndf, AnswersPair, AnswersWrite, AnswersWriteMdf}

-- no second answer, and no second memory
pub rndf-answer-settled : (e : Edition) (text : Bytes) (t : Lent) (a a' : Answer) (l l' : Lent) → AnswersRndf e text t a l → AnswersRndf e text t a' l' → (a ≡ a') × (l ≡ l')
rndf-answer-settled e text t a a' l l' x y =
    let same = rndf-settled (inner e) text t x.reply y.reply l l' x.promised y.promised in
    (x.told ∙ ap rndf_answer_of same.0 ∙ sym y.told, same.1)

pub pair-answer-settled : (e : Edition) (rndf mdf : Bytes) (t : Lent) (u : MissionLent) (a a' : Answer) (l l' : Lent) (k k' : MissionLent) → AnswersPair e rndf mdf t u a l k → AnswersPair e rndf mdf t u a' l' k'
    → (a ≡ a') × (l ≡ l') × (k ≡ k')
pair-answer-settled e rndf mdf t u a a' l l' k k' x y =
    let same = pair-settled (inner e) rndf mdf t u x.reply y.reply l l' k k' x.promised y.promised in
    (x.told ∙ ap pair_answer_of same.0 ∙ sym y.told, same.1, same.2)

-- one there is
pub rndf-answer-some : (e : Edition) (text : Bytes) (t : Lent) → (a : Answer) × (l : Lent) × AnswersRndf e text t a l
rndf-answer-some e text t =
    let x = rndf-some (inner e) text t in
    (rndf_answer_of x.0, x.1, record { reply = x.0; promised = x.2; told = refl })

pub pair-answer-some : (e : Edition) (rndf mdf : Bytes) (t : Lent) (u : MissionLent) → (a : Answer) × (l : Lent) × (k : MissionLent) × AnswersPair e rndf mdf t u a l k
pair-answer-some e rndf mdf t u =
    let x = pair-some (inner e) rndf mdf t u in
    (pair_answer_of x.reply, x.left, x.mission_left, record { reply = x.reply; promised = x.reads; told = refl })

-- ## The writers
-- any writing of a network that an accepted network has exactly one of
module _ (e : Edition) (Writing : Network Field → Bytes → Type 0) (one : OneWriting (inner e) Writing) (text : Bytes) (t : Lent) (lent : ℕ) where
  any-answer-settled : (a a' : WriteAnswer) (l l' : Lent) (o o' : Bytes) → AnswersWrite e Writing text t lent a l o → AnswersWrite e Writing text t lent a' l' o' → (a ≡ a') × (l ≡ l') × (o ≡ o')
  any-answer-settled a a' l l' o o' x y =
      let same = write-settled (inner e) Writing one text t lent x.reply y.reply l l' o o' x.promised y.promised in
      (x.told ∙ ap write_answer_of same.0 ∙ sym y.told, same.1, same.2)

  any-answer-some : (a : WriteAnswer) × (l : Lent) × (o : Bytes) × AnswersWrite e Writing text t lent a l o
  any-answer-some =
      let x = write-some (inner e) Writing one text t lent in
      (write_answer_of x.reply, x.left, x.out, record { reply = x.reply; promised = x.writes; told = refl })

-- the house writing, the map and the packed form
module _ (e : Edition) (text : Bytes) (t : Lent) (lent : ℕ) where
  pub write-answer-settled : (a a' : WriteAnswer) (l l' : Lent) (o o' : Bytes) → AnswersWrite e HouseRndf text t lent a l o → AnswersWrite e HouseRndf text t lent a' l' o' → (a ≡ a') × (l ≡ l') × (o ≡ o')
  write-answer-settled = any-answer-settled e HouseRndf (house-one (inner e)) text t lent

  pub write-answer-some : (a : WriteAnswer) × (l : Lent) × (o : Bytes) × AnswersWrite e HouseRndf text t lent a l o
  write-answer-some = any-answer-some e HouseRndf (house-one (inner e)) text t lent

  pub map-answer-settled : (a a' : WriteAnswer) (l l' : Lent) (o o' : Bytes) → AnswersWrite e MapOf text t lent a l o → AnswersWrite e MapOf text t lent a' l' o' → (a ≡ a') × (l ≡ l') × (o ≡ o')
  map-answer-settled = any-answer-settled e MapOf (map-one (inner e)) text t lent

  pub map-answer-some : (a : WriteAnswer) × (l : Lent) × (o : Bytes) × AnswersWrite e MapOf text t lent a l o
  map-answer-some = any-answer-some e MapOf (map-one (inner e)) text t lent

  pub packed-answer-settled : (a a' : WriteAnswer) (l l' : Lent) (o o' : Bytes) → AnswersWrite e PackedOf text t lent a l o → AnswersWrite e PackedOf text t lent a' l' o' → (a ≡ a') × (l ≡ l') × (o ≡ o')
  packed-answer-settled = any-answer-settled e PackedOf (packed-one (inner e)) text t lent

  pub packed-answer-some : (a : WriteAnswer) × (l : Lent) × (o : Bytes) × AnswersWrite e PackedOf text t lent a l o
  packed-answer-some = any-answer-some e PackedOf (packed-one (inner e)) text t lent

-- the MDF of a pair
pub write-mdf-answer-settled : (e : Edition) (rndf mdf : Bytes) (t : Lent) (u : MissionLent) (lent : ℕ) (a a' : WriteAnswer) (l l' : Lent) (k k' : MissionLent) (o o' : Bytes)
    → AnswersWriteMdf e rndf mdf t u lent a l k o → AnswersWriteMdf e rndf mdf t u lent a' l' k' o' → (a ≡ a') × (l ≡ l') × (k ≡ k') × (o ≡ o')
write-mdf-answer-settled e rndf mdf t u lent a a' l l' k k' o o' x y =
    let same = mdf-write-settled (inner e) rndf mdf t u lent x.reply y.reply l l' k k' o o' x.promised y.promised in
    (x.told ∙ ap write_mdf_answer_of same.0 ∙ sym y.told, same.1, same.2, same.3)

pub write-mdf-answer-some : (e : Edition) (rndf mdf : Bytes) (t : Lent) (u : MissionLent) (lent : ℕ)
    → (a : WriteAnswer) × (l : Lent) × (k : MissionLent) × (o : Bytes) × AnswersWriteMdf e rndf mdf t u lent a l k o
write-mdf-answer-some e rndf mdf t u lent =
    let x = mdf-write-some (inner e) rndf mdf t u lent in
    (write_mdf_answer_of x.reply, x.left, x.mission_left, x.out, record { reply = x.reply; promised = x.writes; told = refl })
