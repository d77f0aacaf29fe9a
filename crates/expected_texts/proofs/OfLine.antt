-- The fault of a line's fields by its number; of which numbers whole lines are told, the fields of one, or one field. Assumes nothing.
use mathlib.Core.Path.{◌≡◌, refl, subst}
use mathlib.Core.List.{List, [], ◌∷◌, head-eq_of_cons-eq, tail-eq_of_cons-eq}
use mathlib.Core.Bool.{true, false}
use mathlib.Core.Logic.{inl, inr}
use Prim.Native.Nat.{ℕ, ◌<◌}
use native.Mathlib.Omega.{arith}
use lib.Dec.{eqb}
use Rattle.terms.specs.Ascii.{Bytes}
use Rattle.terms.specs.Words.{Among}
use Rattle.line.specs.Content.{Field, Content}
use Rattle.line.specs.Text.{Ended}
use Rattle.line.specs.Line as Form-faults
use Rattle.line.proofs.Ends.{ended-one}
use Rattle.line.proofs.Contents.{content-one}
use Rattle.law.specs.Network.{Line, Rules}
use Rattle.law.specs.Faults.{Fault, FieldFault, MayStand}
use Rattle.law.specs.Faults as Faults
use Rattle.edition.specs.declared.Edition as DE
use Rattle.edition.specs.Editions.{rules_of}
use Rattle.expected_lines.specs.Words.{lists, lists_field_of}

-- ## By the number
pub of-bytes : (n : ℕ) → Among n (2 ∷ 3 ∷ 4 ∷ []) → (lists n ≡ false) × (eqb n 7 ≡ false) × (lists_field_of n ≡ false)
unfolding lists lists_field_of
of-bytes n (inl q) = rw q (refl, refl, refl)
of-bytes n (inr (inl q)) = rw q (refl, refl, refl)
of-bytes n (inr (inr (inl q))) = rw q (refl, refl, refl)
of-bytes n (inr (inr (inr q))) = absurd q

pub of_field : (n : ℕ) → Among n (8 ∷ 9 ∷ []) → (lists n ≡ false) × (eqb n 7 ≡ false) × (lists_field_of n ≡ true)
unfolding lists lists_field_of
of_field n (inl q) = rw q (refl, refl, refl)
of_field n (inr (inl q)) = rw q (refl, refl, refl)
of_field n (inr (inr q)) = absurd q

-- ## The fault

module _ (e : DE.Edition) {Net : Type 0} (Spells : Rules → Net → List Line → Type 0) where
  pub of-line : (front : List Line) (line : Bytes) (n : ℕ) → 4 < n → Fault (rules_of e) Spells front line n → {content : Bytes} {f : Field} {fs : List Field} → Ended line content → Content 0 content (f ∷ fs) → FieldFault (rules_of e) Spells front f fs n
  of-line front line n h (Faults.form _ (Form-faults.long _)) ended c = absurd (omega arith)
  of-line front line n h (Faults.form _ (Form-faults.comment _ _)) ended c = absurd (omega arith)
  of-line front line n h (Faults.form _ (Form-faults.byte _ _ _)) ended c = absurd (omega arith)
  of-line front line n h (Faults.fields {f = f'} {fs = fs'} e' c' fault) {content} {f} {fs} ended c =
      let same : f' ∷ fs' ≡ f ∷ fs = content-one (subst (λ (c : Bytes). Content 0 c (f' ∷ fs')) (ended-one e' ended) c') c in
      subst (λ (f : Field). FieldFault (rules_of e) Spells front f fs n) (head-eq_of_cons-eq same) (subst (λ (fs : List Field). FieldFault (rules_of e) Spells front f' fs n) (tail-eq_of_cons-eq same) fault)

  -- 7: a line that the first field opens may stand
  pub may_stand : (front : List Line) {f : Field} {fs : List Field} (n : ℕ) → n ≡ 7 → FieldFault (rules_of e) Spells front f fs n → (line : Line) × MayStand (rules_of e) Spells front f line
  may_stand front n q (Faults.misplaced _ _) = absurd (omega arith)
  may_stand front n q (Faults.given_again _ _) = absurd (omega arith)
  may_stand front n q (Faults.miscounted line m _) = (line, m)
  may_stand front n q (Faults.misspelt _ _ _ _ _) = absurd (omega arith)
  may_stand front n q (Faults.forbidden _ _ _ _ _ _) = absurd (omega arith)
  may_stand front n q (Faults.unmarked _ _ _ _) = absurd (omega arith)
