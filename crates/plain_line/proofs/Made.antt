-- What the judge makes of a content whose fields are known. Assumes nothing.
use Rattle.std.specs.Prelude.{Some}
use mathlib.Core.Path.{◌≡◌, sym, ap, ◌∙◌}
use mathlib.Core.List.{List, [], ◌∷◌}
use Prim.Native.Nat.{ℕ, zero, suc, ◌+◌, ◌≤◌, ◌<◌}
use native.Mathlib.Omega.{arith}
use borrow.Author.Tests.{eqb-true, eq-eqb, ne_eqb, lt-ltb}
use lib.ListN.{length, get_or}
use lib.Dec.{eqb}
use Rattle.terms.specs.Ascii.{Bytes}
use Rattle.line.specs.Content.{Field}
use Rattle.line.specs.Forms.{fields_at, fields_in_of, field_in, listed, part}
use Rattle.line.proofs.Spans.{fields-listed}
use Rattle.statement.specs.declared.Statement.{Statement}
use Rattle.made_out.specs.Made.{shapes, needs_of, made_of}
use Rattle.place.specs.declared.Place.{Place}
use Rattle.judge.specs.Judging.{blank, of_kind, known, told}
use Rattle.judge.specs.RndfLine.{rndf_kind, judging}
use Rattle.judge.proofs.Judged.{same_count, some_field}
use Rattle.plain_line.specs.Fields.{Makes}
use Rattle.plain_line.specs.Plain.{stated}

-- ## The fields as the judge has them
module _ (base : ℕ) (c : Bytes) where
  counted : (n : ℕ) → n ≤ 3 → length (fields_at base c) ≡ n → (fields_in_of c).count ≡ n
  counted n h e = eqb-true (fields_in_of c).count n (same_count base c n h ∙ eq-eqb (length (fields_at base c)) n e)

  as-listed : (n : ℕ) → (fields_in_of c).count ≡ n → fields_at base c ≡ listed base c (fields_in_of c) n
  as-listed n e = fields-listed base c ∙ ap (listed base c (fields_in_of c)) e

  pub one-part : (x : Field) → fields_at base c ≡ x ∷ [] → ((fields_in_of c).count ≡ 1) × (part c (fields_in_of c).a ≡ x.bytes)
  one-part x e =
      let n = counted 1 (omega arith) (ap length e) in
      let l : field_in base c (fields_in_of c).a ∷ [] ≡ x ∷ [] = sym (as-listed 1 n) ∙ e in
      let p : field_in base c (fields_in_of c).a ≡ x = cc in
      (n, ap (λ (f : Field). f.bytes) p)

  pub two-parts : (x y : Field) → fields_at base c ≡ x ∷ y ∷ [] → ((fields_in_of c).count ≡ 2) × (part c (fields_in_of c).a ≡ x.bytes) × (part c (fields_in_of c).b ≡ y.bytes)
  two-parts x y e =
      let n = counted 2 (omega arith) (ap length e) in
      let l : field_in base c (fields_in_of c).a ∷ field_in base c (fields_in_of c).b ∷ [] ≡ x ∷ y ∷ [] = sym (as-listed 2 n) ∙ e in
      let p : field_in base c (fields_in_of c).a ≡ x = cc in
      let q : field_in base c (fields_in_of c).b ≡ y = cc in
      (n, ap (λ (f : Field). f.bytes) p, ap (λ (f : Field). f.bytes) q)

  -- where the second starts in the text
  pub second-start : (x y : Field) → fields_at base c ≡ x ∷ y ∷ [] → base + (fields_in_of c).b.start ≡ y.start
  second-start x y e =
      let n = counted 2 (omega arith) (ap length e) in
      let l : field_in base c (fields_in_of c).a ∷ field_in base c (fields_in_of c).b ∷ [] ≡ x ∷ y ∷ [] = sym (as-listed 2 n) ∙ e in
      let q : field_in base c (fields_in_of c).b ≡ y = cc in
      ap (λ (f : Field). f.start) q

  pub three-parts : (x y z : Field) → fields_at base c ≡ x ∷ y ∷ z ∷ [] → ((fields_in_of c).count ≡ 3) × (part c (fields_in_of c).a ≡ x.bytes) × (part c (fields_in_of c).b ≡ y.bytes) × (part c (fields_in_of c).c ≡ z.bytes)
  three-parts x y z e =
      let n = counted 3 (omega arith) (ap length e) in
      let l : field_in base c (fields_in_of c).a ∷ field_in base c (fields_in_of c).b ∷ field_in base c (fields_in_of c).c ∷ [] ≡ x ∷ y ∷ z ∷ [] = sym (as-listed 3 n) ∙ e in
      let p : field_in base c (fields_in_of c).a ≡ x = cc in
      let q : field_in base c (fields_in_of c).b ≡ y = cc in
      let r : field_in base c (fields_in_of c).c ≡ z = cc in
      (n, ap (λ (f : Field). f.bytes) p, ap (λ (f : Field). f.bytes) q, ap (λ (f : Field). f.bytes) r)

-- so many fields, one at least, and as many as the kind needs
pub makes : (c : Bytes) (base k : ℕ) (st : Statement) (n : ℕ) → (fields_in_of c).count ≡ n → 0 < n → needs_of (get_or shapes k 0) ≡ n → made_of c base (fields_in_of c) k ≡ Some st → Makes c base k st
makes c base k st n e h d m = record { some = ne_eqb (fields_in_of c).count 0 (λ q. omega arith); needed = eq-eqb (fields_in_of c).count (needs_of (get_or shapes k 0)) (e ∙ sym d); made = m }

-- ## What is told of them
module _ (table : List (List ℕ)) (c : Bytes) (base : ℕ) (p : Place) where
  pub told-said : (k : ℕ) (st : Statement) → k < 30 → rndf_kind (part c (fields_in_of c).a) ≡ k → Makes c base k st → told (judging table) c base p ≡ stated (judging table) k st p
  unfolding told known of_kind stated
  told-said k st h e m = rw (m.some, e, lt-ltb k 30 h, m.needed, m.made)

  pub told-blank : fields_at base c ≡ [] → told (judging table) c base p ≡ blank
  unfolding told
  told-blank e = rw (same_count base c 0 (omega arith) ∙ ap (λ (fs : List Field). eqb (length fs) 0) e)

-- the first of any fields
pub first_part : (base : ℕ) (c : Bytes) (x : Field) (fs : List Field) → fields_at base c ≡ x ∷ fs → part c (fields_in_of c).a ≡ x.bytes
first_part base c x fs e = go (fields_in_of c).count (sym (fields-listed base c) ∙ e)
  where
    go : (n : ℕ) → listed base c (fields_in_of c) n ≡ x ∷ fs → part c (fields_in_of c).a ≡ x.bytes
    go zero l = absurd (let z : ◌≡◌ {A = ℕ} 0 (suc (length fs)) = ap length l in omega arith)
    go (suc n) l =
        let g = some_field base c (fields_in_of c) n in
        let q : field_in base c (fields_in_of c).a ∷ g.0 ≡ x ∷ fs = sym g.1 ∙ l in
        let p : field_in base c (fields_in_of c).a ≡ x = cc in
        ap (λ (f : Field). f.bytes) p
