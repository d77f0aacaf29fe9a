-- THE THEOREMS of an MDF's places: at a sound place of the program that lines lead to, what it lists is what is expected there (5, 6, 10), and the form of a line's kind is what is expected of its fields (7). Assumes nothing.
use mathlib.Core.Path.{◌≡◌, refl, sym, ap, subst, ◌∙◌}
use mathlib.Core.List.{List, [], ◌∷◌, ◌++◌}
use mathlib.Core.Option.{Option, none, some}
use Prim.Native.Nat.{ℕ, ◌<◌}
use Rattle.terms.specs.Words.{pick, Each}
use Rattle.line.specs.Content.{Field}
use Rattle.word.specs.Number.{digit_first}
use Rattle.law.specs.Network.{Line}
use Rattle.law.specs.Network as Law
use Rattle.law.specs.Faults.{Opens, MayStand}
use Rattle.edition.specs.declared.Edition as DE
use Rattle.edition.specs.Editions.{inner, rules_of}
use Rattle.grammar.specs.Language.{S}
use Rattle.grammar.specs.Machine.{Place, over, inside, at, lenient}
use Rattle.grammar.specs.Mission.{SpellsMission}
use Rattle.grammar.specs.MissionPlaces.{mdf, name_due}
use Rattle.grammar.specs.MissionStatements as Mdf
use Rattle.grammar.specs.PlaceRows.{mission_kind_row}
use Rattle.grammar.specs.PlaceTable.{mdf_table_of}
use Rattle.grammar.specs.Stands.{stands}
use Rattle.grammar.proofs.StandLaws.{stands-all}
use Rattle.text.specs.Judge.{numbered, kind_at}
use Rattle.text.specs.MdfLines.{the_mdf_line_of}
use Rattle.text.specs.MdfWords.{mdf_lexis}
use Rattle.law_faults.proofs.Reached.{laws, Came, run-lenient, line-back}
use Rattle.law_faults.proofs.Opening.{opens-kind}
use Rattle.law_faults.proofs.Mdf.{mdf-needs_in, mdf-lenient-needs_in}
use Rattle.mission_place.specs.declared.MissionPlace as DP
use Rattle.mission_place.specs.Abstract.{abs_of}
use Rattle.mission_place.proofs.Theorems.{Sound}
use Rattle.mission_judge.specs.MdfLine.{mdf_kind, mdf_judging}
use Rattle.judge.proofs.Judged.{OfKind}
use Rattle.mission_judge.proofs.MdfTies.{kind-is}
use Rattle.expected_law.specs.Expected.{Form, ListsLines, StillOwed, lines, fields, ExpectedBehind, Expected, miscounted}
use Rattle.expected_words.specs.Items.{law_form}
use Rattle.expected_forms.specs.Forms.{order_form_of, order_forms_at, owed_orders_of}
use Rattle.expected_exact.specs.Listed.{mdf_options, mdf_due, listed, mdf_listed}
use Rattle.expected_exact.proofs.Files.{mdf-lenient_exact}
use Rattle.expected_exact.proofs.Live.{Instance}
use Rattle.expected_exact.proofs.Theorems.{mdf-lists-at}
use Rattle.expected_owed.specs.Owed.{owed_orders_at}
use Rattle.expected_owed.proofs.Theorems.{mdf-owed}
use Rattle.expected_places.proofs.OwedBehind.{behind-owed}
use Rattle.expected_places.proofs.MdfForms.{mdf-same-list, mdf-owed-is, mdf-one-form, mdf-form-listed, mdf-form-opens}

module _ (e : DE.Edition) where
  abbrev front : List (S (Mdf.orders Field)) → List Line
  front = laws the_mdf_line_of

  -- statements that lead to a place
  abbrev pub MdfCame : List (S (Mdf.orders Field)) → Place (mdf Field) → Type 0
  MdfCame = Came (mdf Field) mdf_lexis the_mdf_line_of SpellsMission Law.SpellsMission name_due (mdf-needs_in (inner e))

  module _ (p : DP.MissionPlace) (sound : Sound p) (said : List (S (Mdf.orders Field))) (came : MdfCame said (abs_of p)) where
    -- 5, 6 and 10
    pub mdf_expects : ExpectedBehind (rules_of e) Law.SpellsMission (front said) (lines (owed_orders_of p) (order_forms_at mdf_table_of p))
    mdf_expects =
        let is : owed_orders_of p ≡ owed_orders_at (abs_of p) = mdf-owed-is p sound in
        behind-owed (rules_of e) Law.SpellsMission (front said) (order_forms_at mdf_table_of p) (owed_orders_of p)
        (subst (ListsLines (rules_of e) Law.SpellsMission (front said)) (sym (mdf-same-list p sound)) (mdf-lists-at (inner e) said (abs_of p) came))
        (mdf-one-form p sound)
        (λ h. subst (StillOwed (rules_of e) Law.SpellsMission (front said)) (sym is) (mdf-owed (inner e) said (abs_of p) came (subst (λ (k : ℕ). 0 < k) is h)))

    -- ## 7
    calmly : (q : Place (mdf Field)) → numbered (mdf Field) mdf_lexis q ≡ numbered (lenient (mdf Field)) mdf_lexis q
    unfolding numbered
    calmly over = refl
    calmly (inside b g) = refl

    as_calm : (q : Place (mdf Field)) → mdf_listed q ≡ listed (lenient (mdf Field)) mdf_options mdf_due q
    unfolding listed
    as_calm over = refl
    as_calm (inside b g) = refl

    same_kind : (f : Field) (k : Mdf.Kind) → kind_at (lenient (mdf Field)) mdf_lexis (abs_of p) f ≡ some k → mdf_kind p f.bytes ≡ mission_kind_row k
    same_kind f k q = subst (OfKind (mdf Field) mdf_lexis mdf_judging mission_kind_row p (mdf_kind p f.bytes)) (ap (λ (o : Option Mdf.Kind). pick (digit_first f.bytes) o (mdf_lexis.lookup f.bytes)) (calmly (abs_of p)) ∙ q) (kind-is p sound f)

    pub mdf_expects-fields : (f : Field) (fs : List Field) (line : Line) → MayStand (rules_of e) Law.SpellsMission (front said) f line → (k : Mdf.Kind) × (mdf_kind p f.bytes ≡ mission_kind_row k) × Expected (rules_of e) Law.SpellsMission (front said) f fs 7 (fields (law_form (order_form_of (mdf_kind p f.bytes))))
    mdf_expects-fields f fs line m =
        let loose = lenient (mdf Field) in
        let N = mdf-lenient-needs_in (inner e) in
        let calm = run-lenient (mdf Field) (at (mdf Field) name_due) (abs_of p) said came in
        let x = line-back loose mdf_lexis the_mdf_line_of SpellsMission Law.SpellsMission name_due N said (abs_of p) line calm m.1 in
        let s = x.0 in
        let may : stands loose (abs_of p) s.kind ≡ none = stands-all loose (abs_of p) s.kind s.val x.1 x.3 in
        let o = subst (Opens f) x.2 m.0 in
        let k = same_kind f s.kind (opens-kind loose mdf_lexis the_mdf_line_of SpellsMission Law.SpellsMission name_due N (abs_of p) f s.kind s.val may o) in
        (s.kind, k, subst (λ (i : ℕ). Expected (rules_of e) Law.SpellsMission (front said) f fs 7 (fields (law_form (order_form_of i)))) (sym k) (miscounted (listed loose mdf_options mdf_due (abs_of p)) (mdf-lenient_exact (inner e) said (abs_of p) calm, subst (Each Instance) (as_calm (abs_of p)) (mdf-lists-at (inner e) said (abs_of p) came).1) (mdf-form-listed (abs_of p) s.kind may) (mdf-form-opens f s.kind s.val o)))
