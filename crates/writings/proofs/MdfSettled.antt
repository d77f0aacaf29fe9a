-- THE THEOREM of document 01's "Prove that no second reply or memory would satisfy it", for the writer of an MDF: the contract settles the reply, every lent word and every byte of the lent output, for all texts, tables and outputs; and some reply and memory satisfy it. Assumes nothing.
use Rattle.std.specs.Prelude.{Err}
use Rattle.writings.specs.Types.{WriteMdfReply}
use Rattle.replies.specs.Types.{PairReply}
use mathlib.Core.Path.{◌≡◌, refl, sym, ap, ap₂, subst, ◌∙◌}
use mathlib.Core.Logic.{◌⊎◌, inl, inr}
use Prim.Native.Nat.{ℕ}
use lib.ListN.{length}
use Rattle.terms.specs.Ascii.{Bytes}
use Rattle.line.specs.Content.{Field}
use Rattle.grammar.specs.Editions.{Edition, law_of}
use Rattle.law.specs.Network.{Network, Mission, reading}
use Rattle.law.specs.Tables.{Lent, MissionLent, mission_filled, mission_zeros}
use Rattle.law.specs.Tables as Tables
use Rattle.house_text.specs.House.{HouseMdf}
use Rattle.house_text.specs.HouseText.{house_mdf}
use Rattle.output.specs.Output.{zero_bytes, Fits, padded}
use Rattle.refusal.specs.declared.Refusal.{Refusal}
use Rattle.replies.specs.Replies.{an_mdf, refusal, ReadsPair}
use Rattle.replies.specs.Replies as R
use Rattle.replies.specs.Short.{AcceptsRndf, AcceptsMdf}
use Rattle.replies.proofs.Settled.{rndf-accepts-one, mdf-accepts-one, pair-settled, pair-some}
use Rattle.replies.proofs.Said.{pair-never-both}
use Rattle.writings.specs.Writes.{AcceptedText, WritesMdf}
use Rattle.writings.specs.Writes as W
use Rattle.writings.proofs.OneWriting.{mdf-there, mdf-same, fits-or-not}
use Rattle.writings.proofs.Read.{mdf-reply-of, pair-reply, pair-read-so}

module _ (ed : Edition) (rndf mdf : Bytes) (t : Lent) (u : MissionLent) (lent : ℕ) where
  abbrev Net : Network Field → Type 0
  Net n = AcceptsRndf (reading (law_of ed)) rndf t n

  abbrev Order : Network Field → Type 0
  Order n = AcceptedText (reading (law_of ed)) (an_mdf n u) HouseMdf mdf

  same-net : (n n' : Network Field) → Net n → Net n' → n ≡ n'
  same-net n n' a a' = rndf-accepts-one ed rndf t n n' a a'

  same-mission : (n n' : Network Field) → Net n → Net n' → (x : Order n) (y : Order n') → x.meant ≡ y.meant
  same-mission n n' a a' x y = mdf-accepts-one ed n' mdf u x.meant y.meant (subst (λ (k : Network Field). AcceptsMdf (reading (law_of ed)) k mdf u x.meant) (same-net n n' a a') x.accepted) y.accepted

  same-writing : (n n' : Network Field) → Net n → Net n' → (x : Order n) (y : Order n') → x.writing ≡ y.writing
  same-writing n n' a a' x y = mdf-same y.meant x.writing y.writing (subst (λ (m : Mission Field). HouseMdf m x.writing) (same-mission n n' a a' x y) x.wrote) y.wrote

  -- the writing of one fits where that of the other does
  fits_one : (n n' : Network Field) → Net n → Net n' → (x : Order n) (y : Order n') → Fits lent x.writing → Fits lent y.writing
  fits_one n n' a a' x y = subst (Fits lent) (same-writing n n' a a' x y)

  not-refused : (n : Network Field) → Net n → Order n → (why : Refusal) (left : Lent) (mission_left : MissionLent) → ReadsPair (reading (law_of ed)) rndf mdf t u (Err why) left mission_left → ⊥
  not-refused n a x why left mission_left h =
      pair-never-both (pair-settled ed rndf mdf t u (pair-reply n x.meant) (Err why) (Tables.filled n t) left (mission_filled x.meant u) mission_left (pair-read-so ed rndf mdf t u n x.meant a x.accepted) h).0

  -- no second reply, and no second memory
  pub mdf-write-settled : (r r' : WriteMdfReply) (l l' : Lent) (k k' : MissionLent) (o o' : Bytes) → WritesMdf (reading (law_of ed)) rndf mdf t u lent r l k o → WritesMdf (reading (law_of ed)) rndf mdf t u lent r' l' k' o' → (r ≡ r') × (l ≡ l') × (k ≡ k') × (o ≡ o')
  mdf-write-settled r r' l l' k k' o o' (W.refused why h e z) (W.refused why' h' e' z') =
      let s = pair-settled ed rndf mdf t u (Err why) (Err why') l l' k k' h h' in
      (e ∙ ap (mdf-reply-of 0) s.0 ∙ sym e', s.1, s.2, z ∙ sym z')
  mdf-write-settled r r' l l' k k' o o' (W.refused why h e z) (W.too_long n' a' x' f' e' p' q' z') = absurd (not-refused n' a' x' why l k h)
  mdf-write-settled r r' l l' k k' o o' (W.refused why h e z) (W.written n' a' x' f' e' p' q' z') = absurd (not-refused n' a' x' why l k h)
  mdf-write-settled r r' l l' k k' o o' (W.too_long n a x f e p q z) (W.refused why h' e' z') = absurd (not-refused n a x why l' k' h')
  mdf-write-settled r r' l l' k k' o o' (W.too_long n a x f e p q z) (W.too_long n' a' x' f' e' p' q' z') = (e ∙ sym e', p ∙ sym p', q ∙ sym q', z ∙ sym z')
  mdf-write-settled r r' l l' k k' o o' (W.too_long n a x f e p q z) (W.written n' a' x' f' e' p' q' z') = absurd (f (fits_one n' n a' a x' x f'))
  mdf-write-settled r r' l l' k k' o o' (W.written n a x f e p q z) (W.refused why h' e' z') = absurd (not-refused n a x why l' k' h')
  mdf-write-settled r r' l l' k k' o o' (W.written n a x f e p q z) (W.too_long n' a' x' f' e' p' q' z') = absurd (f' (fits_one n n' a a' x x' f))
  mdf-write-settled r r' l l' k k' o o' (W.written n a x f e p q z) (W.written n' a' x' f' e' p' q' z') =
      let i = same-net n n' a a' in
      let j = same-mission n n' a a' x x' in
      let w = same-writing n n' a a' x x' in
      (e ∙ (λ s. mdf-reply-of (length (w s)) (pair-reply (i s) (j s))) ∙ sym e', p ∙ ap (λ (m : Network Field). Tables.filled m t) i ∙ sym p', q ∙ ap (λ (m : Mission Field). mission_filled m u) j ∙ sym q', z ∙ ap (padded lent) w ∙ sym z')

  -- one there is
  pub record MdfSome : Type 0 where
    pub reply : WriteMdfReply
    pub left : Lent
    pub mission_left : MissionLent
    pub out : Bytes
    pub writes : WritesMdf (reading (law_of ed)) rndf mdf t u lent reply left mission_left out

  by-room : (n : Network Field) → Net n → (x : Order n) → Fits lent x.writing ⊎ (Fits lent x.writing → ⊥) → MdfSome
  by-room n a x (inl f) = record { reply = mdf-reply-of (length x.writing) (pair-reply n x.meant); left = Tables.filled n t; mission_left = mission_filled x.meant u; out = padded lent x.writing; writes = W.written n a x f refl refl refl refl }
  by-room n a x (inr f) = record { reply = Err (refusal 2 0 19 0); left = Tables.zeros t; mission_left = mission_zeros u; out = zero_bytes lent; writes = W.too_long n a x f refl refl refl refl }

  as_read : (why : Refusal) (left : Lent) (mission_left : MissionLent) → ReadsPair (reading (law_of ed)) rndf mdf t u (Err why) left mission_left → MdfSome
  as_read why left mission_left h = record { reply = Err why; left = left; mission_left = mission_left; out = zero_bytes lent; writes = W.refused why h refl refl }

  pub mdf-write-some : MdfSome
  mdf-write-some = let x = pair-some ed rndf mdf t u in go x.reply x.left x.mission_left x.reads
    where
      go : (r : PairReply) (left : Lent) (mission_left : MissionLent) → ReadsPair (reading (law_of ed)) rndf mdf t u r left mission_left → MdfSome
      go r left mission_left (R.accepted n m a b e p q) = by-room n a (record { meant = m; accepted = b; writing = house_mdf m; wrote = mdf-there ed m mdf b.spelled }) (fits-or-not lent (house_mdf m))
      go r left mission_left (R.rndf_refused_of line number column b e p q) = as_read (refusal 1 line number column) left mission_left (R.rndf_refused_of line number column b refl p q)
      go r left mission_left (R.mdf_refused_of n line number column a b e p q) = as_read (refusal 2 line number column) left mission_left (R.mdf_refused_of n line number column a b refl p q)
