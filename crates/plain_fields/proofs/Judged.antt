-- THE LAW: a line with the fields of a statement of its kind gets what the statement alone gets at the place. For every file. Assumes nothing.
use mathlib.Core.Path.{◌≡◌, refl, sym, ap, ◌∙◌}
use mathlib.Core.List.{List, ◌∷◌, head-eq_of_cons-eq}
use mathlib.Core.Option.{some}
use mathlib.Core.Bool.{true}
use Prim.Native.Nat.{ℕ, suc, ◌≤◌}
use native.Mathlib.Omega.{arith}
use borrow.Author.Tests.{eq-eqb, ne_eqb, eqb-true}
use lib.ListN.{length, take}
use lib.Seq.{take-append_seam}
use lib.Dec.{ltb}
use Rattle.terms.specs.Ascii.{Bytes}
use Rattle.line.specs.Content.{Field}
use Rattle.line.specs.Forms.{fields_in_of, listed, part}
use Rattle.line.specs.declared.Fields.{Fields}
use Rattle.line.proofs.Ends.{trim-take, ended_is}
use Rattle.line.proofs.Faults.{content-form}
use Rattle.line.proofs.Spelled.{fields-are}
use Rattle.line.proofs.Spans.{fields-listed}
use Rattle.judge.specs.Judging.{Judging, of_kind, known, told, formed, content, line}
use Rattle.judge.proofs.Judged.{same_count, some_field}
use Rattle.plain_parts.specs.Stands.{stretch}
use Rattle.plain_fields.specs.LineStands.{LineStands, stated}

-- what stands before a comment is judged
pub looked-at : (J : Judging) {s : Bytes} {from stop : ℕ} {fs : List Field} (l : LineStands s from stop fs) (p : J.Pl) → line J (stretch s from stop) from p ≡ told J l.fielded.outer from p
unfolding line content
looked-at J {s} {from} {stop} l p =
    let c = l.content in
    let outer : take (length l.fielded.outer) c ≡ l.fielded.outer = ap (take (length l.fielded.outer)) l.fielded.spelled ∙ take-append_seam l.fielded.outer l.fielded.note in
    ap (λ (c : Bytes). content J c from p) (trim-take (stretch s from stop) ∙ ended_is l.ended)
    ∙ ap (formed J c from p) (content-form c l.fielded)
    ∙ ap (λ (c : Bytes). told J c from p) outer

module _ (J : Judging) {s : Bytes} {from stop : ℕ} {f : Field} {fs : List Field} (l : LineStands s from stop (f ∷ fs)) where
  -- its fields are these
  abbrev outer : Bytes
  outer = l.fielded.outer

  counted : length (f ∷ fs) ≤ 3 → (fields_in_of outer).count ≡ length (f ∷ fs)
  counted h = eqb-true (fields_in_of outer).count (length (f ∷ fs)) (same_count from outer (length (f ∷ fs)) h ∙ eq-eqb _ _ (ap length (fields-are l.fielded.fielded)))

  are-listed : length (f ∷ fs) ≤ 3 → listed from outer (fields_in_of outer) (length (f ∷ fs)) ≡ f ∷ fs
  are-listed h = ap (listed from outer (fields_in_of outer)) (sym (counted h)) ∙ sym (fields-listed from outer) ∙ fields-are l.fielded.fielded

  first-is : length (f ∷ fs) ≤ 3 → part outer (fields_in_of outer).a ≡ f.bytes
  first-is h =
      let (gs, e) = some_field from outer (fields_in_of outer) (length fs) in
      ap (λ (g : Field). g.bytes) (head-eq_of_cons-eq (sym e ∙ are-listed h))

  pub plain-judged : (p : J.Pl) (k : ℕ) (t : J.St) → J.kind_of p f.bytes ≡ k → ltb k J.kinds ≡ true → J.needs k ≡ length (f ∷ fs) → length (f ∷ fs) ≤ 3
      → ((c : Bytes) (g : Fields) → listed from c g (length (f ∷ fs)) ≡ f ∷ fs → J.made c from g k ≡ some t)
      → line J (stretch s from stop) from p ≡ stated J k t p
  unfolding told known of_kind stated
  plain-judged p k t kind known-kind few h made =
      looked-at J l p
      ∙ rw (first-is h, kind, known-kind, made outer (fields_in_of outer) (are-listed h), counted h, ne_eqb (suc (length fs)) 0 (λ e. omega arith), few, eq-eqb (length (f ∷ fs)) (length (f ∷ fs)) refl) refl
