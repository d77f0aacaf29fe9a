-- THE THEOREM of document 01's "Prove that no second reply or memory would satisfy it", for the writers of an RNDF's network: the contract settles the reply, every lent word and every byte of the lent output, for all texts, tables and outputs; and some reply and memory satisfy it. For every writing that an accepted network has exactly one of: the house writing (`rndf-write-..`), the map (`map-..`) and the packed form (`packed-..`). Assumes nothing.
use Rattle.std.specs.Prelude.{Err}
use Rattle.writings.specs.Types.{WriteReply}
use Rattle.replies.specs.Types.{RndfReply}
use mathlib.Core.Path.{◌≡◌, refl, sym, ap, ap₂, subst, ◌∙◌}
use mathlib.Core.Logic.{◌⊎◌, inl, inr}
use Prim.Native.Nat.{ℕ}
use lib.ListN.{length}
use Rattle.terms.specs.Ascii.{Bytes}
use Rattle.law.specs.Tables.{Lent}
use Rattle.law.specs.Tables as Tables
use Rattle.output.specs.Output.{zero_bytes, Fits, padded}
use Rattle.refusal.specs.declared.Refusal.{Refusal}
use Rattle.replies.specs.Replies.{an_rndf, refusal, ReadsRndf}
use Rattle.replies.specs.Replies as R
use Rattle.replies.proofs.Settled.{rndf-accepts-one, rndf-settled, rndf-some}
use Rattle.replies.proofs.Said.{never_both}
use Rattle.writings.specs.Writes.{AcceptedText, Writes, WritesRndf, MapOf, WritesMap, PackedOf, WritesPacked}
use Rattle.writings.specs.Writes as W
use Rattle.house_text.specs.House.{HouseRndf}
use Rattle.line.specs.Content.{Field}
use Rattle.grammar.specs.Editions.{Edition, law_of}
use Rattle.law.specs.Network.{Network, reading}
use Rattle.writings.proofs.OneWriting.{OneWriting, house-one, map-one, packed-one, fits-or-not}
use Rattle.writings.proofs.Read.{reply-of, read-reply, read-so}

module _ (ed : Edition) (Writing : Network Field → Bytes → Type 0) (one : OneWriting ed Writing) (text : Bytes) (t : Lent) (lent : ℕ) where
  abbrev Yard : Type 0
  Yard = AcceptedText (reading (law_of ed)) (an_rndf t) Writing text

  same-net : (x y : Yard) → x.meant ≡ y.meant
  same-net x y = rndf-accepts-one ed text t x.meant y.meant x.accepted y.accepted

  same-writing : (x y : Yard) → x.writing ≡ y.writing
  same-writing x y = one.same y.meant x.writing y.writing (subst (λ (n : Network Field). Writing n x.writing) (same-net x y) x.wrote) y.wrote

  -- the writing of one fits where that of the other does
  fits_one : (x y : Yard) → Fits lent x.writing → Fits lent y.writing
  fits_one x y = subst (Fits lent) (same-writing x y)

  not-refused : (x : Yard) (why : Refusal) (left : Lent) → ReadsRndf (reading (law_of ed)) text t (Err why) left → ⊥
  not-refused x why left h = never_both (rndf-settled ed text t (read-reply x.meant) (Err why) (Tables.filled x.meant t) left (read-so ed text t x.meant x.accepted) h).0

  -- no second reply, and no second memory
  pub write-settled : (r r' : WriteReply) (l l' : Lent) (o o' : Bytes) → Writes (reading (law_of ed)) Writing text t lent r l o → Writes (reading (law_of ed)) Writing text t lent r' l' o' → (r ≡ r') × (l ≡ l') × (o ≡ o')
  write-settled r r' l l' o o' (W.refused why h e z) (W.refused why' h' e' z') =
      let s = rndf-settled ed text t (Err why) (Err why') l l' h h' in
      (e ∙ ap (reply-of 0) s.0 ∙ sym e', s.1, z ∙ sym z')
  write-settled r r' l l' o o' (W.refused why h e z) (W.too_long x' f' e' p' z') = absurd (not-refused x' why l h)
  write-settled r r' l l' o o' (W.refused why h e z) (W.written x' f' e' p' z') = absurd (not-refused x' why l h)
  write-settled r r' l l' o o' (W.too_long x f e p z) (W.refused why h' e' z') = absurd (not-refused x why l' h')
  write-settled r r' l l' o o' (W.too_long x f e p z) (W.too_long x' f' e' p' z') = (e ∙ sym e', p ∙ sym p', z ∙ sym z')
  write-settled r r' l l' o o' (W.too_long x f e p z) (W.written x' f' e' p' z') = absurd (f (fits_one x' x f'))
  write-settled r r' l l' o o' (W.written x f e p z) (W.refused why h' e' z') = absurd (not-refused x why l' h')
  write-settled r r' l l' o o' (W.written x f e p z) (W.too_long x' f' e' p' z') = absurd (f' (fits_one x x' f))
  write-settled r r' l l' o o' (W.written x f e p z) (W.written x' f' e' p' z') =
      let n = same-net x x' in
      let w = same-writing x x' in
      (e ∙ ap₂ (λ (m : Network Field) (y : Bytes). reply-of (length y) (read-reply m)) n w ∙ sym e', p ∙ ap (λ (m : Network Field). Tables.filled m t) n ∙ sym p', z ∙ ap (padded lent) w ∙ sym z')

  -- one there is
  pub record Some : Type 0 where
    pub reply : WriteReply
    pub left : Lent
    pub out : Bytes
    pub writes : Writes (reading (law_of ed)) Writing text t lent reply left out

  by-room : (x : Yard) → Fits lent x.writing ⊎ (Fits lent x.writing → ⊥) → Some
  by-room x (inl f) = record { reply = reply-of (length x.writing) (read-reply x.meant); left = Tables.filled x.meant t; out = padded lent x.writing; writes = W.written x f refl refl refl }
  by-room x (inr f) = record { reply = Err (refusal 1 0 19 0); left = Tables.zeros t; out = zero_bytes lent; writes = W.too_long x f refl refl refl }

  pub write-some : Some
  write-some = let x = rndf-some ed text t in go x.0 x.1 x.2
    where
      go : (r : RndfReply) (left : Lent) → ReadsRndf (reading (law_of ed)) text t r left → Some
      go r left (R.accepted n a e k) = let w = one.there n text a.spelled in by-room (record { meant = n; accepted = a; writing = w.0; wrote = w.1 }) (fits-or-not lent w.0)
      go r left (R.refused line number column a e k) = record { reply = Err (refusal 1 line number column); left = left; out = zero_bytes lent; writes = W.refused (refusal 1 line number column) (R.refused line number column a refl k) refl refl }

-- ## The house writing, the map and the packed form
module _ (ed : Edition) (text : Bytes) (t : Lent) (lent : ℕ) where
  abbrev pub RndfSome : Type 0
  RndfSome = Some ed HouseRndf (house-one ed) text t lent

  pub rndf-write-settled : (r r' : WriteReply) (l l' : Lent) (o o' : Bytes) → WritesRndf (reading (law_of ed)) text t lent r l o → WritesRndf (reading (law_of ed)) text t lent r' l' o' → (r ≡ r') × (l ≡ l') × (o ≡ o')
  rndf-write-settled = write-settled ed HouseRndf (house-one ed) text t lent

  pub rndf-write-some : RndfSome
  rndf-write-some = write-some ed HouseRndf (house-one ed) text t lent

  pub map-settled : (r r' : WriteReply) (l l' : Lent) (o o' : Bytes) → WritesMap (reading (law_of ed)) text t lent r l o → WritesMap (reading (law_of ed)) text t lent r' l' o' → (r ≡ r') × (l ≡ l') × (o ≡ o')
  map-settled = write-settled ed MapOf (map-one ed) text t lent

  abbrev pub MapSome : Type 0
  MapSome = Some ed MapOf (map-one ed) text t lent

  pub map-some : MapSome
  map-some = write-some ed MapOf (map-one ed) text t lent

  pub packed-settled : (r r' : WriteReply) (l l' : Lent) (o o' : Bytes) → WritesPacked (reading (law_of ed)) text t lent r l o → WritesPacked (reading (law_of ed)) text t lent r' l' o' → (r ≡ r') × (l ≡ l') × (o ≡ o')
  packed-settled = write-settled ed PackedOf (packed-one ed) text t lent

  abbrev pub PackedSome : Type 0
  PackedSome = Some ed PackedOf (packed-one ed) text t lent

  pub packed-some : PackedSome
  packed-some = write-some ed PackedOf (packed-one ed) text t lent
