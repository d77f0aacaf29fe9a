-- The lines of an RNDF and of an MDF say one thing each; and a statement is at fault with one number only. Assumes nothing.
use mathlib.Core.Path.{◌≡◌, refl, sym, ap, subst, ◌∙◌}
use mathlib.Core.List.{List, [], map}
use mathlib.Core.Option.{none}
use mathlib.Core.Bool.{true, false}
use Prim.Native.Nat.{ℕ, ◌+◌}
use native.Mathlib.Omega.{arith}
use lib.ListN.{length, get_or}
use lib.Dec.{eqb, ltb→lt}
use borrow.Author.Tests.{eqb-false}
use Rattle.terms.specs.Ascii.{Bytes}
use Rattle.terms.proofs.Tests.{nothing}
use Rattle.line.specs.Content.{Field}
use Rattle.line.specs.Lines.{lines_of}
use Rattle.word.specs.Keywords.{rndf_keywords}
use Rattle.grammar.specs.Editions.{Edition, march}
use Rattle.grammar.specs.Language.{Lang, say, as_kind}
use Rattle.grammar.specs.Statements as Rndf
use Rattle.grammar.specs.MissionStatements as Mdf
use Rattle.grammar.specs.Network.{Network, under}
use Rattle.grammar.specs.Mission.{Mission}
use Rattle.grammar.specs.Places.{rndf_by}
use Rattle.grammar.specs.MissionPlaces.{mdf}
use Rattle.grammar.specs.PlaceRows.{kinds, kind_row, mission_kinds, mission_kind_row}
use Rattle.grammar.proofs.LanguageLaws.{as_same}
use Rattle.grammar.proofs.RndfTable.{coded, short}
use Rattle.grammar.proofs.MdfTable as MdfTable
use Rattle.text.specs.RndfLines.{rndf_line_in_of, the_rndf_line_of}
use Rattle.text.specs.MdfLines.{the_mdf_line_of}
use Rattle.text.specs.Spelling.{SpellsLines, SpellsRndfIn, SpellsRndf, SpellsMdf}
use Rattle.text.specs.RndfWords.{rndf_lexis_in}
use Rattle.text.specs.RndfWords as RndfWords
use Rattle.text.specs.MdfWords.{mdf_lexis, mdf_sorts}
use Rattle.text.specs.MdfWords as MdfWords
use Rattle.text.proofs.KeywordRows.{no_row}
use Rattle.text.proofs.RndfText.{rndf-lawful}
use Rattle.text.proofs.MdfText.{mdf-lawful}
use Rattle.fill.specs.Faults.{LimitFault, not_there, given_again, ReferenceFault, MissionFault, other_name, foreign_goal, bad_limit_of, id_missing}
use Rattle.fill.proofs.ReferenceLines.{reference_decides}
use Rattle.fault_lines.proofs.LineOne.{Clear, clear}
use Rattle.fault_lines.proofs.Said.{some_is, all_said}

-- ## RNDF: one kind has no keyword
last_row : (k : Rndf.Kind) → RndfWords.word_at (kind_row k) ≡ none → kind_row k ≡ 29
last_row k e =
    let h = no_row 29 rndf_keywords [] (kind_row k) e in
    let l = ltb→lt (kind_row k) 30 (short k) in
    omega arith

pub rndf-clear_in : (d : Edition) → Clear (Rndf.lines Field) (rndf_line_in_of d)
rndf-clear_in d = clear (rndf_by Field (under d true)) (rndf_lexis_in d) (rndf_line_in_of d) (rndf-lawful d) (λ j k e q l. sym (coded j) ∙ ap (λ (i : ℕ). get_or kinds i Rndf.RNDF_name_of) (last_row j e ∙ sym (last_row k q)) ∙ coded k)

pub rndf-clear : Clear (Rndf.lines Field) the_rndf_line_of
rndf-clear = rndf-clear_in march

-- ## MDF: two kinds have none, and differ in the number of fields
by-fields : (k : Mdf.Kind) → MdfWords.word_at (mission_kind_row k) ≡ none → mission_kind_row k + mission_kind_row k ≡ 21 + length (mdf_sorts k)
by-fields Mdf.MDF_name_of e = nothing (sym e)
by-fields Mdf.RNDF e = nothing (sym e)
by-fields Mdf.format_version_of e = nothing (sym e)
by-fields Mdf.creation_date_of e = nothing (sym e)
by-fields Mdf.checkpoints e = nothing (sym e)
by-fields Mdf.num_checkpoints e = nothing (sym e)
by-fields Mdf.end_checkpoints e = nothing (sym e)
by-fields Mdf.speed_limits e = nothing (sym e)
by-fields Mdf.num_speed_limits e = nothing (sym e)
by-fields Mdf.end_speed_limits e = nothing (sym e)
by-fields Mdf.end_file_of e = nothing (sym e)
by-fields Mdf.goal e = refl
by-fields Mdf.limit e = refl

pub mdf-clear : Clear (Mdf.orders Field) the_mdf_line_of
mdf-clear = clear (mdf Field) mdf_lexis the_mdf_line_of mdf-lawful (λ j k e d l.
    let a = by-fields j e in
    let b = by-fields k d in
    let i : mission_kind_row j ≡ mission_kind_row k = omega arith in
    sym (MdfTable.coded j) ∙ ap (λ (i : ℕ). get_or mission_kinds i Mdf.MDF_name_of) i ∙ MdfTable.coded k)

-- the statements of a text that is spelled
pub rndf-said_in : (d : Edition) (n : Network Field) (text : Bytes) (h : SpellsRndfIn d n text) → SpellsLines (rndf_line_in_of d) 0 (lines_of text) h.said
rndf-said_in d n text h = all_said (rndf-clear_in d) h.made h.each

pub rndf-said : (n : Network Field) (text : Bytes) (h : SpellsRndf n text) → SpellsLines the_rndf_line_of 0 (lines_of text) h.said
rndf-said n text h = all_said rndf-clear h.made h.each

pub mdf-said : (m : Mission Field) (text : Bytes) (h : SpellsMdf m text) → SpellsLines the_mdf_line_of 0 (lines_of text) h.said
mdf-said m text h = all_said mdf-clear h.made h.each

-- ## One number
same-said : (L : Lang) (k : L.Kind) (v w : L.Pay k) → say L k v ≡ say L k w → v ≡ w
same-said L k v w e = some_is (sym (as_same L k v) ∙ ap (as_kind L k) e ∙ as_same L k w)

pub reference-one : {N : Type 0} (n : Network N) (front : List (Rndf.Statement N)) (x : Rndf.Statement N) (k m : ℕ) → ReferenceFault n front x k → ReferenceFault n front x m → k ≡ m
reference-one n front x k m f g = some_is (sym ((reference_decides n).tells front x k f) ∙ (reference_decides n).tells front x m g)

limit-one : (parts : ℕ) (front : List ℕ) (i k m : ℕ) → LimitFault parts front i k → LimitFault parts front i m → k ≡ m
limit-one parts front i k m (not_there n e) (not_there n' d) = e ∙ sym d
limit-one parts front i k m (not_there n e) (given_again b a d) = absurd (n b)
limit-one parts front i k m (given_again b a e) (not_there n d) = absurd (n b)
limit-one parts front i k m (given_again b a e) (given_again b' a' d) = e ∙ sym d

module _ {N : Type 0} where
  -- a statement is of one kind
  differ : {Y : Type 0} {x : Mdf.Statement N} {a b : Mdf.Kind} {v : Mdf.Says N a} {w : Mdf.Says N b} → x ≡ Mdf.say a v → x ≡ Mdf.say b w → eqb (mission_kind_row a) (mission_kind_row b) ≡ false → Y
  differ {a = a} {b = b} e d q = absurd (eqb-false (mission_kind_row a) (mission_kind_row b) q (ap (λ (x : Mdf.Statement N). mission_kind_row x.kind) (sym e ∙ d)))

  pub mission-one : (Named : N → Type 0) (numbers : List ℕ) (parts : ℕ) (front : List (Mdf.Statement N)) (x : Mdf.Statement N) (k m : ℕ) → MissionFault Named numbers parts front x k → MissionFault Named numbers parts front x m → k ≡ m
  mission-one Named numbers parts front x k m (other_name v e n q) (other_name v' e' n' q') = q ∙ sym q'
  mission-one Named numbers parts front x k m (other_name v e n q) (foreign_goal v' e' n' q') = differ e e' refl
  mission-one Named numbers parts front x k m (other_name v e n q) (bad_limit_of v' e' f') = differ e e' refl
  mission-one Named numbers parts front x k m (other_name v e n q) (id_missing e' s' q') = differ e e' refl
  mission-one Named numbers parts front x k m (foreign_goal v e n q) (other_name v' e' n' q') = differ e e' refl
  mission-one Named numbers parts front x k m (foreign_goal v e n q) (foreign_goal v' e' n' q') = q ∙ sym q'
  mission-one Named numbers parts front x k m (foreign_goal v e n q) (bad_limit_of v' e' f') = differ e e' refl
  mission-one Named numbers parts front x k m (foreign_goal v e n q) (id_missing e' s' q') = differ e e' refl
  mission-one Named numbers parts front x k m (bad_limit_of v e f) (other_name v' e' n' q') = differ e e' refl
  mission-one Named numbers parts front x k m (bad_limit_of v e f) (foreign_goal v' e' n' q') = differ e e' refl
  mission-one Named numbers parts front x k m (bad_limit_of v e f) (bad_limit_of v' e' f') =
      let ids = map (λ (a : Mdf.Limit). a.id) (Mdf.of_kind Mdf.limit front) in
      limit-one parts ids v'.id k m (subst (λ (v : Mdf.Limit). LimitFault parts ids v.id k) (same-said (Mdf.orders N) Mdf.limit v v' (sym e ∙ e')) f) f'
  mission-one Named numbers parts front x k m (bad_limit_of v e f) (id_missing e' s' q') = differ e e' refl
  mission-one Named numbers parts front x k m (id_missing e s q) (other_name v' e' n' q') = differ e e' refl
  mission-one Named numbers parts front x k m (id_missing e s q) (foreign_goal v' e' n' q') = differ e e' refl
  mission-one Named numbers parts front x k m (id_missing e s q) (bad_limit_of v' e' f') = differ e e' refl
  mission-one Named numbers parts front x k m (id_missing e s q) (id_missing e' s' q') = q ∙ sym q'
