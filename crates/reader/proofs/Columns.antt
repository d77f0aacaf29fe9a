-- The column that is replied is the law's, and no other is. Assumes nothing.
use mathlib.Core.Path.{◌≡◌, refl, sym, subst, ◌∙◌}
use mathlib.Core.List.{List, ◌∷◌}
use mathlib.Core.Logic.{◌⊎◌, inl, inr}
use Prim.Native.Nat.{ℕ, ◌<◌, ◌≤◌}
use native.Mathlib.Omega.{arith}
use lib.ListN.{length}
use borrow.Author.Tests.{ne_eqb}
use Rattle.terms.specs.Ascii.{Bytes}
use Rattle.line.specs.Content.{Field}
use Rattle.law.specs.Network.{Network, Line, SpellsNetwork, SpellsMission, reading, present}
use Rattle.law.specs.Tables.{Lent, MissionLent}
use Rattle.law.specs.Faults.{BadLine, FirstFault, RndfFault, undeclared, repeated, MdfFault, other_name, foreign_goal, unknown_id, limited_again, unlimited}
use Rattle.grammar.specs.Editions.{Edition, law_of}
use Rattle.grammar.specs.Statements.{Statement}
use Rattle.grammar.specs.Machine.{next, at, over, run}
use Rattle.grammar.specs.Places.{name_due}
use Rattle.text.specs.RndfLines.{rndf_line_in_of}
use Rattle.text.specs.Spelling.{SpellsRndfIn}
use Rattle.text.proofs.Theorems.{places, rndf-file_in}
use Rattle.form_faults.specs.FormFaults.{RndfBadLineIn, MdfBadLine}
use Rattle.form_faults.proofs.FormFaults.{rndf-two-to-nine-or_25_in, rndf-two-to-nine-or_25, mdf-two-to-nine}
use Rattle.law_faults.proofs.Theorems.{rndf-bad-to_in, rndf-bad-back, mdf-bad-to_in, mdf-bad-back}
use Rattle.law_faults.proofs.Reached.{run-parts}
use Rattle.fault_lines.specs.FaultLines.{SaysAt, FirstRndfFault}
use Rattle.fault_lines.proofs.Files.{rndf-clear_in, rndf-said_in}
use Rattle.fault_lines.proofs.Said.{says-only}
use Rattle.law_tables.proofs.RndfFirst.{says-earlier, rndf-first-to_in}
use Rattle.editions.proofs.Columns.{column_in-same}
use Rattle.law_columns.specs.Columns.{Column}
use Rattle.law_columns.specs.Files.{rndf_column_in_of, rndf_column_of, mdf_column_of}
use Rattle.law_columns.proofs.Theorems.{rndf-column-bad_in, rndf-column-fault_in, rndf-column-bad, rndf-column-fault, rndf-column-one, mdf-column-bad_in, mdf-column-fault_in, mdf-column-bad, mdf-column-fault, mdf-column-one}
use Rattle.columns.specs.RndfColumns.{rndf_column_in}
use Rattle.columns.specs.MdfColumns.{mdf_column_in}
use Rattle.columns.proofs.Theorems.{rndf-column-is, mdf-column-is}
use Rattle.replies.specs.Replies.{longest, too_long, bad_line, unended, no_room, bad_reference}
use Rattle.replies.specs.Short.{RefusesRndf, RefusesMdf}
use Rattle.reader.specs.Columns.{if_there, rndf_told_of, mdf_told_of}

-- it is looked for at every line but for 10
pub no_end : (i k c : ℕ) → k ≡ 10 → 0 ≡ if_there i k c
no_end i k c e = rw e refl

pub no_line : (i k c : ℕ) → (k ≡ 10 → ⊥) → i ≡ 0 → 0 ≡ if_there i k c
no_line i k c not e = rw (ne_eqb k 10 not, e) refl

pub some-line : (i k c : ℕ) → (k ≡ 10 → ⊥) → (i ≡ 0 → ⊥) → c ≡ if_there i k c
some-line i k c not some = rw (ne_eqb k 10 not, ne_eqb i 0 some) refl

there : (i k c : ℕ) → 0 < i → (k ≡ 10 → ⊥) → if_there i k c ≡ c
there i k c h not = sym (some-line i k c not (λ e. omega (arith, h, e)))

form-not-end : (k : ℕ) → ((2 ≤ k) × (k ≤ 9)) ⊎ (k ≡ 25) → k ≡ 10 → ⊥
form-not-end k (inl h) e = omega (arith, h.1, e)
form-not-end k (inr h) e = omega (arith, h, e)

rndf-not-end : (n : Network Field) (front : List Line) (line : Line) (k : ℕ) → RndfFault n front line k → k ≡ 10 → ⊥
rndf-not-end n front line k (undeclared x y e q u) z = omega arith
rndf-not-end n front line k (repeated x y x' y' c c' q a s) z = omega arith

mdf-not-end : (n : Network Field) (front : List Line) (line : Line) (k : ℕ) → MdfFault n front line k → k ≡ 10 → ⊥
mdf-not-end n front line k (other_name v q u) z = omega arith
mdf-not-end n front line k (foreign_goal g q u) z = omega arith
mdf-not-end n front line k (unknown_id a q u) z = omega arith
mdf-not-end n front line k (limited_again a b q u w s) z = omega arith
mdf-not-end n front line k (unlimited id q u w) z = omega arith

-- ## RNDF
module _ (text : Bytes) (size : length text ≤ longest) where
  rndf-there : (i k : ℕ) → 0 < i → (k ≡ 10 → ⊥) → rndf_told_of text i k ≡ rndf_column_of text i k
  unfolding rndf_told_of
  rndf-there i k h not = there i k (rndf_column_in text i k) h not ∙ rndf-column-is text i k size

  rndf-bad-there : (i k : ℕ) → BadLine present SpellsNetwork text i k → rndf_told_of text i k ≡ rndf_column_of text i k
  rndf-bad-there i k b =
      let j = b.at.number in
      rndf-there i k (omega (arith, j)) (form-not-end k (rndf-two-to-nine-or_25 text i k (rndf-bad-back text i k b)))

  rndf-fault-there : (n : Network Field) (i k : ℕ) → FirstFault present SpellsNetwork (RndfFault n) text i k → rndf_told_of text i k ≡ rndf_column_of text i k
  rndf-fault-there n i k f =
      let j = f.at.at.number in
      rndf-there i k (omega (arith, j)) (rndf-not-end n f.front f.line k f.fault)

pub rndf-told-so : (text : Bytes) (t : Lent) (i k c : ℕ) → RefusesRndf present text t i k c → c ≡ rndf_told_of text i k
unfolding rndf_told_of
rndf-told-so text t i k c (too_long h) = refl
rndf-told-so text t i k c (bad_line size b x) = rndf-column-one b.front b.this k c (rndf_column_of text i k) x (rndf-column-bad text i k b) ∙ sym (rndf-bad-there text size i k b)
rndf-told-so text t i k c (unended size u) = refl
rndf-told-so text t i k c (no_room n size h r) = refl
rndf-told-so text t i k c (bad_reference n size h r f x) = rndf-column-one f.front f.at.this k c (rndf_column_of text i k) x (rndf-column-fault n text i k f) ∙ sym (rndf-fault-there text size n i k f)

-- ## An RNDF by an edition: its column is the present one's
module _ (ε : Edition) where
  -- a line of a text that the edition spells, behind lines that it takes
  column-there : (n : Network Field) (text : Bytes) → SpellsRndfIn ε n text → (i k : ℕ) (front : List (Statement Field)) (x : Statement Field) → SaysAt (rndf_line_in_of ε) text i front x → rndf_column_in_of ε text i k ≡ rndf_column_of text i k
  column-there n text s i k front x a =
      let o = says-only (rndf-clear_in ε) text s.said (rndf-said_in ε n text s) i front x a in
      let c = (rndf-file_in ε).complete n s.said s.net in
      let r = run-parts (places ε) (at (places ε) name_due) over front (x ∷ o.0) (subst (λ (l : List (Statement Field)). run (places ε) (at (places ε) name_due) l ≡ next over) o.1 c) in
      column_in-same ε text i k a.before a.this a.rest a.cut a.number front r.0 a.said r.1

  module _ (text : Bytes) (size : length text ≤ longest) where
    pub rndf-bad-told_in : (i k : ℕ) (b : RndfBadLineIn ε text i k) → let x = rndf-bad-to_in ε text i k b in Column (reading (law_of ε)) SpellsNetwork x.front x.this k (rndf_told_of text i k)
    rndf-bad-told_in i k b =
        let x = rndf-bad-to_in ε text i k b in
        let j = b.number in
        let same : rndf_column_in_of ε text i k ≡ rndf_told_of text i k
        = column_in-same ε text i k b.before b.this b.rest b.cut b.number b.said b.place b.spelled b.came
        ∙ sym (rndf-there text size i k (omega (arith, j)) (form-not-end k (rndf-two-to-nine-or_25_in ε text i k b))) in
        subst (Column (reading (law_of ε)) SpellsNetwork x.front x.this k) same (rndf-column-bad_in ε text i k x)

    pub rndf-fault-told_in : (n : Network Field) (s : SpellsRndfIn ε n text) (i k : ℕ) (f : FirstRndfFault n text i k) → let x = rndf-first-to_in ε n text s i k f in Column (reading (law_of ε)) SpellsNetwork x.front x.at.this k (rndf_told_of text i k)
    rndf-fault-told_in n s i k f =
        let x = rndf-first-to_in ε n text s i k f in
        let j = x.at.at.number in
        let same : rndf_column_in_of ε text i k ≡ rndf_told_of text i k
        = column-there n text s i k f.front f.this (says-earlier ε n text s i f.front f.this f.at)
        ∙ sym (rndf-there text size i k (omega (arith, j)) (rndf-not-end n x.front x.line k x.fault)) in
        subst (Column (reading (law_of ε)) SpellsNetwork x.front x.at.this k) same (rndf-column-fault_in ε n text i k x)

-- ## MDF. n: the network of the RNDF, which was accepted before
module _ (text : Bytes) (size : length text ≤ longest) where
  mdf-there : (i k : ℕ) → 0 < i → (k ≡ 10 → ⊥) → mdf_told_of text i k ≡ mdf_column_of text i k
  unfolding mdf_told_of
  mdf-there i k h not = there i k (mdf_column_in text i k) h not ∙ mdf-column-is text i k size

  mdf-bad-there : (i k : ℕ) → BadLine present SpellsMission text i k → mdf_told_of text i k ≡ mdf_column_of text i k
  mdf-bad-there i k b =
      let h = mdf-two-to-nine text i k (mdf-bad-back text i k b) in
      let j = b.at.number in
      mdf-there i k (omega (arith, j)) (form-not-end k (inl h))

  mdf-fault-there : (n : Network Field) (i k : ℕ) → FirstFault present SpellsMission (MdfFault n) text i k → mdf_told_of text i k ≡ mdf_column_of text i k
  mdf-fault-there n i k f =
      let j = f.at.at.number in
      mdf-there i k (omega (arith, j)) (mdf-not-end n f.front f.line k f.fault)

  -- in each edition
  pub mdf-bad-told_in : (ε : Edition) (i k : ℕ) (b : MdfBadLine text i k) → let x = mdf-bad-to_in ε text i k b in Column (reading (law_of ε)) SpellsMission x.front x.this k (mdf_told_of text i k)
  mdf-bad-told_in ε i k b =
      let x = mdf-bad-to_in ε text i k b in
      let j = b.number in
      subst (Column (reading (law_of ε)) SpellsMission x.front x.this k) (sym (mdf-there i k (omega (arith, j)) (form-not-end k (inl (mdf-two-to-nine text i k b))))) (mdf-column-bad_in ε text i k x)

  pub mdf-fault-told_in : (ε : Edition) (n : Network Field) (i k : ℕ) (f : FirstFault (reading (law_of ε)) SpellsMission (MdfFault n) text i k) → Column (reading (law_of ε)) SpellsMission f.front f.at.this k (mdf_told_of text i k)
  mdf-fault-told_in ε n i k f =
      let j = f.at.at.number in
      subst (Column (reading (law_of ε)) SpellsMission f.front f.at.this k) (sym (mdf-there i k (omega (arith, j)) (mdf-not-end n f.front f.line k f.fault))) (mdf-column-fault_in ε n text i k f)

pub mdf-told-so : (n : Network Field) (text : Bytes) (u : MissionLent) (i k c : ℕ) → RefusesMdf present n text u i k c → c ≡ mdf_told_of text i k
unfolding mdf_told_of
mdf-told-so n text u i k c (too_long h) = refl
mdf-told-so n text u i k c (bad_line size b x) = mdf-column-one b.front b.this k c (mdf_column_of text i k) x (mdf-column-bad text i k b) ∙ sym (mdf-bad-there text size i k b)
mdf-told-so n text u i k c (unended size x) = refl
mdf-told-so n text u i k c (no_room m size h r) = refl
mdf-told-so n text u i k c (bad_reference m size h r f x) = mdf-column-one f.front f.at.this k c (mdf_column_of text i k) x (mdf-column-fault n text i k f) ∙ sym (mdf-fault-there text size n i k f)
