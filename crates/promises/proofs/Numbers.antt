-- What each number tells, of a file of either kind: from the order of refusals alone. Assumes nothing.
use mathlib.Core.Path.{◌≡◌, refl, subst}
use mathlib.Core.List.{List, [], ◌∷◌, ◌++◌, head-eq_of_cons-eq, tail-eq_of_cons-eq}
use Prim.Native.Nat.{ℕ, suc, ◌<◌}
use native.Mathlib.Omega.{arith}
use lib.ListN.{length}
use Rattle.terms.specs.Ascii.{Bytes}
use Rattle.line.specs.Text.{Cut}
use Rattle.line.proofs.Cuts.{cut-one}
use Rattle.refusal.specs.Numbers.{OfForm, OfReference}
use Rattle.refusal.proofs.Apart.{form-or-reference, form-not-size, form-not-end, form-not-room, reference-not-size, reference-not-end, reference-not-room}
use Rattle.law.specs.Network.{Line, Rules}
use Rattle.law.specs.Faults.{BadLine, Unended}
use Rattle.law_columns.specs.Columns.{Column}
use Rattle.replies.specs.Replies.{longest, Refuses, too_long, bad_line, unended, no_room, bad_reference}
use Rattle.promises.specs.Refusals as Numbers
use Rattle.promises.specs.Refusals.{OneOfFive, Begin, Hopeless, RefusedLine, NoRoom, WrongReference}

-- a bad line, and its column
abbrev pub BadAt : (rules : Rules) {Net : Type 0} (Spells : Rules → Net → List Line → Type 0) (text : Bytes) (line number column : ℕ) → Type 0
BadAt rules Spells text line number column = (b : BadLine rules Spells text line number) × Column rules Spells b.front b.this number column

-- ## By number. `form`, `reference`: which numbers a bad line and a wrong reference have
module _ (rules : Rules) {Net : Type 0} (Spells : Rules → Net → List Line → Type 0) (Roomy Right : Net → Type 0) (Wrong : Net → List Line → Line → ℕ → Type 0) (text : Bytes)
    (form : (line number : ℕ) → BadLine rules Spells text line number → OfForm number) (reference : (n : Net) (front : List Line) (line : Line) (number : ℕ) → Wrong n front line number → OfReference number) where
  abbrev Refused : (line number column : ℕ) → Type 0
  Refused = Refuses rules (record { Spells = Spells; Roomy = Roomy; Right = Right; Wrong = Wrong }) text

  -- no other numbers are given
  pub number_by : (line number column : ℕ) → Refused line number column → OneOfFive number
  number_by line number column (too_long h) = Numbers.size refl
  number_by line number column (bad_line size b x) = Numbers.form (form line number b)
  number_by line number column (unended size u) = Numbers.end refl
  number_by line number column (no_room n size h f) = Numbers.room refl
  number_by line number column (bad_reference n size h room f x) = Numbers.reference (reference n f.front f.line number f.fault)

  pub size-by : (line number column : ℕ) → Refused line number column → number ≡ 1 → (line ≡ 0) × (longest < length text)
  size-by line number column (too_long h) e = (refl, h)
  size-by line number column (bad_line size b x) e = absurd (form-not-size (form line number b) e)
  size-by line number column (unended size u) e = absurd (omega arith)
  size-by line number column (no_room n size h f) e = absurd (omega arith)
  size-by line number column (bad_reference n size h room f x) e = absurd (reference-not-size (reference n f.front f.line number f.fault) e)

  pub line-by : (line number column : ℕ) → Refused line number column → OfForm number → BadAt rules Spells text line number column
  line-by line number column (too_long h) k = absurd (form-not-size k refl)
  line-by line number column (bad_line size b x) k = (b, x)
  line-by line number column (unended size u) k = absurd (form-not-end k refl)
  line-by line number column (no_room n size h f) k = absurd (form-not-room k refl)
  line-by line number column (bad_reference n size h room f x) k = absurd (form-or-reference k (reference n f.front f.line number f.fault))

  pub end_by : (line number column : ℕ) → Refused line number column → number ≡ 10 → Unended rules Spells text line
  end_by line number column (too_long h) e = absurd (omega arith)
  end_by line number column (bad_line size b x) e = absurd (form-not-end (form line number b) e)
  end_by line number column (unended size u) e = u
  end_by line number column (no_room n size h f) e = absurd (omega arith)
  end_by line number column (bad_reference n size h room f x) e = absurd (reference-not-end (reference n f.front f.line number f.fault) e)

  pub room_by : (line number column : ℕ) → Refused line number column → number ≡ 11 → (line ≡ 0) × NoRoom rules Spells Roomy text
  room_by line number column (too_long h) e = absurd (omega arith)
  room_by line number column (bad_line size b x) e = absurd (form-not-room (form line number b) e)
  room_by line number column (unended size u) e = absurd (omega arith)
  room_by line number column (no_room n size h f) e = (refl, record { net = n; spelled = h; none = f })
  room_by line number column (bad_reference n size h room f x) e = absurd (reference-not-room (reference n f.front f.line number f.fault) e)

  pub reference-by : (line number column : ℕ) → Refused line number column → OfReference number → WrongReference rules Spells Roomy Wrong text line number column
  reference-by line number column (too_long h) k = absurd (reference-not-size k refl)
  reference-by line number column (bad_line size b x) k = absurd (form-or-reference (form line number b) k)
  reference-by line number column (unended size u) k = absurd (reference-not-end k refl)
  reference-by line number column (no_room n size h f) k = absurd (reference-not-room k refl)
  reference-by line number column (bad_reference n size h room f x) k = record { net = n; spelled = h; room = room; fault = f; where_it_is = x }

  -- L7: "Where the line is 0, for 10, .. it is 0": there is a column with a number of form or of reference alone
  pub column-by : (line number column : ℕ) → Refused line number column → (OfForm number → ⊥) → (OfReference number → ⊥) → column ≡ 0
  column-by line number column (too_long h) p q = refl
  column-by line number column (bad_line size b x) p q = absurd (p (form line number b))
  column-by line number column (unended size u) p q = refl
  column-by line number column (no_room n size h f) p q = refl
  column-by line number column (bad_reference n size h room f x) p q = absurd (q (reference n f.front f.line number f.fault))

-- ## A bad line: where lines are cut in two ways at the same place, they are the same
same_place : (a a' : List Bytes) (x x' : Bytes) (rest rest' : List Bytes) → a ++ (x ∷ rest) ≡ a' ++ (x' ∷ rest') → length a ≡ length a' → (a ≡ a') × (x ≡ x')
same_place [] [] x x' rest rest' e k = (refl, head-eq_of_cons-eq e)
same_place [] (b ∷ a') x x' rest rest' e k = absurd (omega arith)
same_place (b ∷ a) [] x x' rest rest' e k = absurd (omega arith)
same_place (b ∷ a) (b' ∷ a') x x' rest rest' e k =
    let k' : length a ≡ length a' = omega arith in
    let p = same_place a a' x x' rest rest' (tail-eq_of_cons-eq e) k' in
    (λ i. head-eq_of_cons-eq e i ∷ p.0 i, p.1)

module _ (rules : Rules) {Net : Type 0} (Spells : Rules → Net → List Line → Type 0) where
  pub refused-by : (text : Bytes) (line number column : ℕ) → BadAt rules Spells text line number column → (before : List Bytes) (this : Bytes) (rest : List Bytes) → Cut text (before ++ (this ∷ rest)) → line ≡ suc (length before)
      → Begin rules Spells before → Hopeless rules Spells before this → RefusedLine rules Spells text line number column
  refused-by text line number column (b, x) before this rest c i h g =
      let j = b.at.number in
      let k : length before ≡ length b.at.before = omega arith in
      let p = same_place before b.at.before this b.this rest b.at.rest (cut-one c b.at.cut) k in
      record {
        front = b.front;
        this = b.this;
        at = b.at;
        begins = subst (Begin rules Spells) p.0 h;
        hopeless = subst (Hopeless rules Spells b.at.before) p.1 (subst (λ (lines : List Bytes). Hopeless rules Spells lines this) p.0 g);
        fault = b.fault;
        where_it_is = x;
      }
