-- THE THEOREMS of an RNDF's places: at a sound place of the program that lines lead to, what it lists is what is expected there (5, 6, 10, 25), and the form of a line's kind is what is expected of its fields (7). Assumes nothing.
use mathlib.Core.Path.{◌≡◌, refl, sym, ap, subst, ◌∙◌}
use mathlib.Core.List.{List, [], ◌∷◌, ◌++◌}
use mathlib.Core.Option.{Option, none, some}
use mathlib.Core.Bool.{true, false}
use Prim.Native.Nat.{ℕ, ◌<◌}
use Rattle.terms.specs.Words.{pick}
use Rattle.line.specs.Content.{Field}
use Rattle.word.specs.Number.{digit_first}
use Rattle.law.specs.Network.{Line, reading}
use Rattle.law.specs.Network as Law
use Rattle.law.specs.Faults.{Opens, MayStand}
use Rattle.edition.specs.declared.Edition as DE
use Rattle.edition.specs.Editions.{inner, rules_of}
use Rattle.grammar.specs.Language.{S}
use Rattle.grammar.specs.Machine.{Machine, Place, over, inside, at, lenient}
use Rattle.grammar.specs.Network.{under, SpellsNetworkBy}
use Rattle.grammar.specs.PlaceRows.{kind_row}
use Rattle.grammar.specs.PlaceTable.{rndf_table_of}
use Rattle.grammar.specs.Places.{rndf, rndf_by, name_due}
use Rattle.grammar.specs.Stands.{stands}
use Rattle.grammar.specs.Statements as Rndf
use Rattle.grammar.proofs.Keeping.{GoodPlace, GoodOut, run-good}
use Rattle.grammar.proofs.StandLaws.{stands-all}
use Rattle.text.specs.Judge.{numbered, kind_at}
use Rattle.text.specs.RndfLines.{rndf_line_in_of}
use Rattle.text.specs.RndfWords.{rndf_lexis_in, rndf_lexis}
use Rattle.text.proofs.RndfText.{Bounded, keeps}
use Rattle.law_faults.proofs.Reached.{laws, Came, run-lenient, line-back}
use Rattle.law_faults.proofs.Opening.{opens-kind}
use Rattle.law_faults.proofs.Rndf.{rndf-needs_in, rndf-lenient-needs_in}
use Rattle.editions.proofs.Steps.{numbered-same}
use Rattle.place.specs.declared.Place as DP
use Rattle.place.specs.Abstract.{abs_of}
use Rattle.place.proofs.Theorems.{Sound}
use Rattle.judge.specs.RndfLine.{rndf_kind, rndf_judging}
use Rattle.judge.proofs.Judged.{OfKind}
use Rattle.judge.proofs.RndfTies.{kind-is}
use Rattle.expected_law.specs.Expected.{ListsLines, StillOwed, lines, fields, ExpectedBehind, Expected, miscounted}
use Rattle.expected_words.specs.Items.{law_form}
use Rattle.expected_forms.specs.Forms.{rndf_form_of, forms_at, the_owed_of}
use Rattle.expected_exact.specs.Listed.{rndf_options, rndf_due, listed}
use Rattle.expected_exact.proofs.Theorems.{rndf-lists-at, rndf-lenient-lists-at}
use Rattle.expected_owed.specs.Owed.{owed_at}
use Rattle.expected_owed.proofs.Theorems.{rndf-owed}
use Rattle.expected_places.proofs.SameForms.{lists-alike}
use Rattle.expected_places.proofs.OwedBehind.{behind-owed}
use Rattle.expected_places.proofs.RndfForms.{kind-form, rndf-alike, rndf-owed-is, rndf-one-form}
use Rattle.expected_places.proofs.RndfKinds.{rndf-form-listed, rndf-form-opens}

module _ (e : DE.Edition) where
  abbrev places : Machine (Rndf.lines Field)
  places = rndf_by Field (under (inner e) true)

  abbrev front : List (S (Rndf.lines Field)) → List Line
  front = laws (rndf_line_in_of (inner e))

  -- statements that lead to a place
  abbrev pub RndfCame : List (S (Rndf.lines Field)) → Place places → Type 0
  RndfCame = Came places (rndf_lexis_in (inner e)) (rndf_line_in_of (inner e)) (SpellsNetworkBy (under (inner e) true)) Law.SpellsNetwork name_due (rndf-needs_in (inner e))

  module _ (p : DP.Place) (sound : Sound p) (said : List (S (Rndf.lines Field))) (came : RndfCame said (abs_of p)) where
    pub rndf-bounded : GoodPlace places Bounded (abs_of p)
    rndf-bounded = subst (GoodOut places Bounded) came (run-good places Bounded (keeps (inner e)) (at places name_due) said tt)

    -- 5, 6, 10 and 25
    pub rndf_expects : ExpectedBehind (rules_of e) Law.SpellsNetwork (front said) (lines (the_owed_of p) (forms_at e rndf_table_of p))
    rndf_expects =
        let is : the_owed_of p ≡ owed_at (abs_of p) = rndf-owed-is e p sound in
        behind-owed (rules_of e) Law.SpellsNetwork (front said) (forms_at e rndf_table_of p) (the_owed_of p)
        (lists-alike (rules_of e) Law.SpellsNetwork (front said) (rndf-alike e p sound rndf-bounded) (rndf-lists-at (inner e) said (abs_of p) came))
        (rndf-one-form e p sound)
        (λ h. subst (StillOwed (rules_of e) Law.SpellsNetwork (front said)) (sym is) (rndf-owed (inner e) said (abs_of p) came (subst (λ (k : ℕ). 0 < k) is h)))

    -- ## 7
    calmly : (q : Place places) → numbered places (rndf_lexis_in (inner e)) q ≡ numbered (lenient places) (rndf_lexis_in (inner e)) q
    unfolding numbered
    calmly over = refl
    calmly (inside b g) = refl

    same_kind : (f : Field) (k : Rndf.Kind) → kind_at (lenient places) (rndf_lexis_in (inner e)) (abs_of p) f ≡ some k → rndf_kind f.bytes ≡ kind_row k
    same_kind f k q =
        subst (OfKind (rndf Field) rndf_lexis rndf_judging kind_row p (rndf_kind f.bytes)) (ap (λ (o : Option Rndf.Kind). pick (digit_first f.bytes) o (rndf_lexis.lookup f.bytes)) (sym (numbered-same (inner e) (abs_of p)) ∙ calmly (abs_of p)) ∙ q) (kind-is p sound f)

    pub rndf_expects-fields : (f : Field) (fs : List Field) (line : Line) → MayStand (rules_of e) Law.SpellsNetwork (front said) f line → (k : Rndf.Kind) × (rndf_kind f.bytes ≡ kind_row k) × Expected (rules_of e) Law.SpellsNetwork (front said) f fs 7 (fields (law_form (rndf_form_of e p (rndf_kind f.bytes))))
    rndf_expects-fields f fs line m =
        let loose = lenient places in
        let N = rndf-lenient-needs_in (inner e) in
        let calm = run-lenient places (at places name_due) (abs_of p) said came in
        let x = line-back loose (rndf_lexis_in (inner e)) (rndf_line_in_of (inner e)) (SpellsNetworkBy (under (inner e) false)) Law.SpellsNetwork name_due N said (abs_of p) line calm m.1 in
        let s = x.0 in
        let may : stands loose (abs_of p) s.kind ≡ none = stands-all loose (abs_of p) s.kind s.val x.1 x.3 in
        let o = subst (Opens f) x.2 m.0 in
        let k = same_kind f s.kind (opens-kind loose (rndf_lexis_in (inner e)) (rndf_line_in_of (inner e)) (SpellsNetworkBy (under (inner e) false)) Law.SpellsNetwork name_due N (abs_of p) f s.kind s.val may o) in
        (s.kind, k, subst (λ (i : ℕ). Expected (rules_of e) Law.SpellsNetwork (front said) f fs 7 (fields (law_form (rndf_form_of e p i)))) (sym k) (miscounted (listed loose (rndf_options (inner e)) (rndf_due (inner e)) (abs_of p)) (rndf-lenient-lists-at (inner e) said (abs_of p) calm) (rndf-form-listed e p sound rndf-bounded s.kind may) (rndf-form-opens e p f s.kind s.val o)))
