-- WELL-FORMED texts, in document 01's words, in each edition: each spells only one network, or mission; well-formed is the same as no fault of 2 to 10; and what a refused line of either file tells. Assumes nothing.
use mathlib.Core.Path.{◌≡◌}
use mathlib.Core.List.{List}
use mathlib.Core.Logic.{◌⊎◌, inl, inr}
use Prim.Native.Nat.{ℕ, ◌≤◌}
use native.Mathlib.Omega.{arith}
use Rattle.terms.specs.Ascii.{Bytes}
use Rattle.line.specs.Content.{Field}
use Rattle.refusal.specs.Numbers.{OfForm, unmarked, OfReference}
use Rattle.refusal.proofs.Apart.{form-within, reference-within}
use Rattle.law.specs.Network.{Network, Mission, Line, SpellsNetwork, SpellsMission, SpellsText}
use Rattle.law.specs.Faults.{BadLine, Unended, RndfFault, undeclared, repeated, MdfFault, other_name, foreign_goal, unknown_id, limited_again, unlimited}
use Rattle.text.specs.Refusals as Old-refusals
use Rattle.text.specs.Spelling as Old
use Rattle.text.proofs.Theorems as Once
use Rattle.form_faults.specs.FormFaults as Old-faults
use Rattle.form_faults.proofs.FormFaults as F
use Rattle.edition.specs.declared.Edition.{Edition}
use Rattle.edition.specs.Editions.{inner, rules_of}
use Rattle.law_spelling.proofs.Texts.{rndf-to_in, rndf-back_in, mdf-to_in, mdf-back_in}
use Rattle.law_faults.proofs.Theorems.{rndf-bad-to_in, rndf-bad-back_in, rndf-unended-to_in, rndf-unended-back_in, mdf-bad-to_in, mdf-bad-back_in, mdf-unended-to_in, mdf-unended-back_in}
use Rattle.promises.specs.Refusals.{WellFormed, NoFormFault, Begin, RefusedLine, RefusedEnd}
use Rattle.promises.proofs.Numbers.{BadAt, refused-by}

module _ (edition : Edition) where
  -- ## Only one network, and only one mission
  pub one-spelled : (text : Bytes) (n n' : Network Field) → SpellsText (rules_of edition) SpellsNetwork n text → SpellsText (rules_of edition) SpellsNetwork n' text → n ≡ n'
  one-spelled text n n' h h' = Once.one-rndf_in (inner edition) n n' text (rndf-back_in (inner edition) n text h) (rndf-back_in (inner edition) n' text h')

  pub one-mission : (text : Bytes) (m m' : Mission Field) → SpellsText (rules_of edition) SpellsMission m text → SpellsText (rules_of edition) SpellsMission m' text → m ≡ m'
  one-mission text m m' h h' = Once.one-mdf m m' text (mdf-back_in (inner edition) m text h) (mdf-back_in (inner edition) m' text h')

  -- ## 01: "'Well-formed' means spelled by the grammar ..; that this is the same as no fault of 2 to 10 is proved and isn't the definition"
  pub rndf-well-formed : (text : Bytes) → (WellFormed (rules_of edition) SpellsNetwork text → NoFormFault (rules_of edition) SpellsNetwork text) × (NoFormFault (rules_of edition) SpellsNetwork text → WellFormed (rules_of edition) SpellsNetwork text)
  rndf-well-formed text = (
    λ w. let h = rndf-back_in (inner edition) w.0 text w.1 in record {
      no_bad_line = λ i k b. F.rndf-bad-or-spelled_in (inner edition) text i k w.0 (rndf-bad-back_in (inner edition) text i k b) h;
      ended = λ i u. F.rndf-unended-or-spelled_in (inner edition) text i w.0 (rndf-unended-back_in (inner edition) text i u) h;
    },
    λ f. go f (F.rndf-one-of-three_in (inner edition) text),
  )
    where
      go : NoFormFault (rules_of edition) SpellsNetwork text → ((n : Network Field) × Old.SpellsRndfIn (inner edition) n text) ⊎ (((i : ℕ) × (n : ℕ) × Old-faults.RndfBadLineIn (inner edition) text i n) ⊎ ((i : ℕ) × Old-faults.RndfUnendedIn (inner edition) text i)) → WellFormed (rules_of edition) SpellsNetwork text
      go f (inl w) = (w.0, rndf-to_in (inner edition) w.0 text w.1)
      go f (inr (inl b)) = absurd (f.no_bad_line b.0 b.1 (rndf-bad-to_in (inner edition) text b.0 b.1 b.2))
      go f (inr (inr u)) = absurd (f.ended u.0 (rndf-unended-to_in (inner edition) text u.0 u.1))

  pub mdf-well-formed : (text : Bytes) → (WellFormed (rules_of edition) SpellsMission text → NoFormFault (rules_of edition) SpellsMission text) × (NoFormFault (rules_of edition) SpellsMission text → WellFormed (rules_of edition) SpellsMission text)
  mdf-well-formed text = (
    λ w. let h = mdf-back_in (inner edition) w.0 text w.1 in record {
      no_bad_line = λ i k b. F.mdf-bad-or-spelled text i k w.0 (mdf-bad-back_in (inner edition) text i k b) h;
      ended = λ i u. F.mdf-unended-or-spelled text i w.0 (mdf-unended-back_in (inner edition) text i u) h;
    },
    λ f. go f (F.mdf-one-of-three text),
  )
    where
      go : NoFormFault (rules_of edition) SpellsMission text → ((m : Mission Field) × Old.SpellsMdf m text) ⊎ (((i : ℕ) × (n : ℕ) × Old-faults.MdfBadLine text i n) ⊎ ((i : ℕ) × Old-faults.MdfUnended text i)) → WellFormed (rules_of edition) SpellsMission text
      go f (inl w) = (w.0, mdf-to_in (inner edition) w.0 text w.1)
      go f (inr (inl b)) = absurd (f.no_bad_line b.0 b.1 (mdf-bad-to_in (inner edition) text b.0 b.1 b.2))
      go f (inr (inr u)) = absurd (f.ended u.0 (mdf-unended-to_in (inner edition) text u.0 u.1))

  -- ## Lines that begin some well-formed text: as the law has it, and over statements
  rndf_begin-to : (lines : List Bytes) → Old-refusals.Begin (Old.SpellsRndfIn (inner edition)) lines → Begin (rules_of edition) SpellsNetwork lines
  rndf_begin-to lines b = record { more = b.more; text = b.text; cut = b.made; formed = (b.net, rndf-to_in (inner edition) b.net b.text b.spelled) }

  rndf_begin-back : (lines : List Bytes) → Begin (rules_of edition) SpellsNetwork lines → Old-refusals.Begin (Old.SpellsRndfIn (inner edition)) lines
  rndf_begin-back lines b = record { more = b.more; text = b.text; made = b.cut; net = b.formed.0; spelled = rndf-back_in (inner edition) b.formed.0 b.text b.formed.1 }

  mdf_begin-to : (lines : List Bytes) → Old-refusals.Begin Old.SpellsMdf lines → Begin (rules_of edition) SpellsMission lines
  mdf_begin-to lines b = record { more = b.more; text = b.text; cut = b.made; formed = (b.net, mdf-to_in (inner edition) b.net b.text b.spelled) }

  mdf_begin-back : (lines : List Bytes) → Begin (rules_of edition) SpellsMission lines → Old-refusals.Begin Old.SpellsMdf lines
  mdf_begin-back lines b = record { more = b.more; text = b.text; made = b.cut; net = b.formed.0; spelled = mdf-back_in (inner edition) b.formed.0 b.text b.formed.1 }

  -- ## A bad line has a number of 2 to 9, or 25; the lines before it begin some well-formed text, and none begins with them and it
  pub the_rndf_form_of : (text : Bytes) (line number : ℕ) → BadLine (rules_of edition) SpellsNetwork text line number → OfForm number
  the_rndf_form_of text line number b = go (F.rndf-two-to-nine-or_25_in (inner edition) text line number (rndf-bad-back_in (inner edition) text line number b))
    where
      go : ((2 ≤ number) × (number ≤ 9)) ⊎ (number ≡ 25) → OfForm number
      go (inl h) = form-within number h.0 h.1
      go (inr e) = unmarked e

  pub mdf_form : (text : Bytes) (line number : ℕ) → BadLine (rules_of edition) SpellsMission text line number → OfForm number
  mdf_form text line number b = let h = F.mdf-two-to-nine text line number (mdf-bad-back_in (inner edition) text line number b) in form-within number h.0 h.1

  pub rndf-refused-line : (text : Bytes) (line number column : ℕ) → BadAt (rules_of edition) SpellsNetwork text line number column → RefusedLine (rules_of edition) SpellsNetwork text line number column
  rndf-refused-line text line number column b =
      let o = rndf-bad-back_in (inner edition) text line number b.0 in
      refused-by (rules_of edition) SpellsNetwork text line number column b o.before o.this o.rest o.cut o.number (rndf_begin-to o.before (F.rndf-begins-some_in (inner edition) text line number o))
      (λ more text' c w. F.rndf-hopeless_in (inner edition) text line number o text' more w.0 c (rndf-back_in (inner edition) w.0 text' w.1))

  pub mdf-refused-line : (text : Bytes) (line number column : ℕ) → BadAt (rules_of edition) SpellsMission text line number column → RefusedLine (rules_of edition) SpellsMission text line number column
  mdf-refused-line text line number column b =
      let o = mdf-bad-back_in (inner edition) text line number b.0 in
      refused-by (rules_of edition) SpellsMission text line number column b o.before o.this o.rest o.cut o.number (mdf_begin-to o.before (F.mdf-begins-some text line number o))
      (λ more text' c w. F.mdf-hopeless text line number o text' more w.0 c (mdf-back_in (inner edition) w.0 text' w.1))

  -- ## 10: a text whose lines begin some well-formed text, and which is none, is unended; and so is no other
  pub rndf-refused-end : (text : Bytes) (line : ℕ) → Unended (rules_of edition) SpellsNetwork text line → RefusedEnd (rules_of edition) SpellsNetwork text line
  rndf-refused-end text line u =
      let o = rndf-unended-back_in (inner edition) text line u in
      record { lines = o.lines; cut = o.cut; begins = rndf_begin-to o.lines o.begins; unfinished = λ w. u.incomplete w.0 w.1; number = o.number }

  pub rndf-end-unended : (text : Bytes) (line : ℕ) → RefusedEnd (rules_of edition) SpellsNetwork text line → Unended (rules_of edition) SpellsNetwork text line
  rndf-end-unended text line r =
      rndf-unended-to_in (inner edition) text line (record { lines = r.lines; cut = r.cut; number = r.number; begins = rndf_begin-back r.lines r.begins; incomplete = λ n s. r.unfinished (n, rndf-to_in (inner edition) n text s) })

  pub mdf-refused-end : (text : Bytes) (line : ℕ) → Unended (rules_of edition) SpellsMission text line → RefusedEnd (rules_of edition) SpellsMission text line
  mdf-refused-end text line u =
      let o = mdf-unended-back_in (inner edition) text line u in
      record { lines = o.lines; cut = o.cut; begins = mdf_begin-to o.lines o.begins; unfinished = λ w. u.incomplete w.0 w.1; number = o.number }

  pub mdf-end-unended : (text : Bytes) (line : ℕ) → RefusedEnd (rules_of edition) SpellsMission text line → Unended (rules_of edition) SpellsMission text line
  mdf-end-unended text line r =
      mdf-unended-to_in (inner edition) text line (record { lines = r.lines; cut = r.cut; number = r.number; begins = mdf_begin-back r.lines r.begins; incomplete = λ m s. r.unfinished (m, mdf-to_in (inner edition) m text s) })

-- ## Wrong references have 12 and 13, and 14 to 18
pub rndf-reference : (n : Network Field) (front : List Line) (line : Line) (number : ℕ) → RndfFault n front line number → OfReference number
rndf-reference n front line number (undeclared x y e is not) = reference-within 12 (omega arith) (omega arith)
rndf-reference n front line number (repeated x y x' y' c c' is was same) = reference-within 13 (omega arith) (omega arith)

pub mdf-reference : (n : Network Field) (front : List Line) (line : Line) (number : ℕ) → MdfFault n front line number → OfReference number
mdf-reference n front line number (other_name v is not) = reference-within 14 (omega arith) (omega arith)
mdf-reference n front line number (foreign_goal g is not) = reference-within 15 (omega arith) (omega arith)
mdf-reference n front line number (unknown_id a is not) = reference-within 16 (omega arith) (omega arith)
mdf-reference n front line number (limited_again a b is known was same) = reference-within 17 (omega arith) (omega arith)
mdf-reference n front line number (unlimited id is known not) = reference-within 18 (omega arith) (omega arith)
