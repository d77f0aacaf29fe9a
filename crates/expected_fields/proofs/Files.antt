-- THE THEOREMS: what is told of the field at fault of a line with 8 or 9 is what the law expects there, in each edition: of an RNDF and of an MDF. Assumes nothing.
use mathlib.Core.Path.{◌≡◌, refl, sym, ap, subst, ◌∙◌}
use mathlib.Core.List.{List, [], ◌∷◌}
use mathlib.Core.Option.{none, some}
use mathlib.Core.Bool.{true, false}
use Prim.Native.Nat.{ℕ, zero, suc, ◌<◌}
use native.Mathlib.Omega.{arith}
use lib.ListN.{length}
use Rattle.terms.specs.Ascii.{Bytes}
use Rattle.terms.specs.Words.{Each, Among}
use Rattle.line.specs.Text.{Ended}
use Rattle.line.specs.Content.{Field, Content}
use Rattle.grammar.specs.Editions.{Edition, law_of}
use Rattle.grammar.specs.Language.{Lang, S}
use Rattle.grammar.specs.Statements as Rndf
use Rattle.grammar.specs.MissionStatements as Mdf
use Rattle.grammar.specs.Network.{under, SpellsNetworkBy}
use Rattle.grammar.specs.Mission.{SpellsMission}
use Rattle.grammar.specs.Machine.{Machine, over, inside, Place, at}
use Rattle.grammar.specs.Machine as Machine
use Rattle.grammar.specs.Places.{rndf_by, rndf, Base, name_due}
use Rattle.grammar.specs.MissionPlaces.{mdf}
use Rattle.grammar.specs.MissionPlaces as M-at
use Rattle.grammar.specs.Stands.{stands}
use Rattle.grammar.proofs.StandLaws.{stands-lenient}
use Rattle.grammar.proofs.Keeping.{GoodPlace, GoodOut, run-good}
use Rattle.text.specs.Judge.{kind_at}
use Rattle.text.specs.RndfLines.{rndf_line_in_of}
use Rattle.text.specs.MdfLines.{the_mdf_line_of}
use Rattle.text.specs.RndfWords.{rndf_lexis_in, rndf_lexis}
use Rattle.text.specs.MdfWords.{mdf_lexis}
use Rattle.text.proofs.RndfText.{Bounded, keeps}
use Rattle.law.specs.Network.{Line, reading}
use Rattle.law.specs.Network as Law
use Rattle.law.specs.Faults.{FieldFault, BadLine}
use Rattle.law_faults.proofs.Needs.{Values}
use Rattle.law_faults.proofs.Unmarked.{kind-same}
use Rattle.law_faults.proofs.Reached.{laws, Came, run-lenient}
use Rattle.law_faults.proofs.Rndf.{rndf-needs_in, rndf-lenient-needs_in}
use Rattle.law_faults.proofs.Mdf.{mdf-needs_in, mdf-lenient-needs_in}
use Rattle.law_columns.specs.Finding.{field_at}
use Rattle.law_columns.specs.Files.{rndf_low_in, rndf_low, mdf_low}
use Rattle.law_columns.proofs.Rndf.{rndf-lows}
use Rattle.law_columns.proofs.Mdf.{mdf-lows}
use Rattle.editions.proofs.Steps.{stands_same}
use Rattle.expected_law.specs.Expected.{Item, Form, field, Expectation, Expected}
use Rattle.expected_law.specs.Telling.{told}
use Rattle.expected_exact.specs.Listed.{rndf_options, rndf_due, mdf_options, mdf_due}
use Rattle.expected_exact.proofs.Exact.{FitPlace}
use Rattle.expected_exact.proofs.Live.{Alive}
use Rattle.expected_exact.proofs.Files.{rndf-lenient-fits, mdf-lenient-fits}
use Rattle.expected_exact.proofs.Theorems.{options_live, due_live, mdf-options_live}
use Rattle.expected_fields.specs.AtFields.{form_of_kind, item_at_of, permitted, field_told}
use Rattle.expected_fields.specs.FileFields.{the_rndf_form_of, mdf_form, mdf_field_told}
use Rattle.expected_fields.proofs.Instances.{Lasting, lasting-alive, lasting-limit}
use Rattle.expected_fields.proofs.Here.{of-form}
use Rattle.expected_fields.proofs.Faults.{of_fields, ToldAt, expected-field, fault-kind}
use Rattle.expected_fields.proofs.Editions.{field-lenient, kind-edition, field-edition}
use Rattle.expected_fields.proofs.Words.{alive-at, told_same}
use Rattle.expected_fields.proofs.Maximum.{words_in}

-- ## Forms that last
each_lasting : (forms : List Form) → Each (λ form. Each Alive form) forms → Each Lasting forms
each_lasting [] h = tt
each_lasting (form ∷ forms) h = (lasting-alive form h.0, each_lasting forms h.1)

-- the form of a kind is the same where no option has to be given
form-lenient : {L : Lang} (A : Machine L) (options : A.Base → List Form) (due : A.Base → Form) (p : Place A) (k : L.Kind) → form_of_kind A options due p k ≡ form_of_kind (Machine.lenient A) options due p k
unfolding form_of_kind
form-lenient A options due over k = refl
form-lenient A options due (inside b g) k = refl

module _ (e : Edition) where
  abbrev rndf-places : Machine (Rndf.lines Field)
  rndf-places = rndf_by Field (under e true)

  -- ## RNDF
  rndf-alive : (p : Place rndf-places) → GoodPlace (Machine.lenient rndf-places) (Values rndf-places) p → (k : Rndf.Kind) → Each Alive (form_of_kind (Machine.lenient rndf-places) (rndf_options e) (rndf_due e) p k)
  unfolding form_of_kind
  rndf-alive over v k = tt
  rndf-alive (inside b g) v k = of-form e (Rndf.lines Field) (rndf_line_in_of e) (λ form. Each Alive form) (rndf-places.opts b) (rndf_options e b) k (rndf_due e b) (due_live e b) (options_live e b v)

  module _ (said : List (S (Rndf.lines Field))) (p : Place rndf-places) (came : Came (Machine.lenient rndf-places) (rndf_lexis_in e) (rndf_line_in_of e) (SpellsNetworkBy (under e false)) Law.SpellsNetwork name_due (rndf-lenient-needs_in e) said p) where
    alive : (k : Rndf.Kind) → Each Alive (form_of_kind (Machine.lenient rndf-places) (rndf_options e) (rndf_due e) p k)
    alive = rndf-alive p (subst (GoodOut (Machine.lenient rndf-places) (Values rndf-places)) came (run-good (Machine.lenient rndf-places) (Values rndf-places) (λ b y. (rndf-lenient-needs_in e).values_after b) (at rndf-places name_due) said (rndf-lenient-needs_in e).values_first))

    fits : FitPlace e (Rndf.lines Field) (rndf_line_in_of e) (Machine.lenient rndf-places) (rndf_options e) (rndf_due e) p
    fits = rndf-lenient-fits e p (subst (GoodOut (Machine.lenient rndf-places) Bounded) came (run-good (Machine.lenient rndf-places) Bounded (keeps e) (at rndf-places name_due) said tt))

    rndf-told-at : (f : Field) (fs : List Field) (n : ℕ) → Among n (8 ∷ 9 ∷ []) → FieldFault (reading (law_of e)) Law.SpellsNetwork (laws (rndf_line_in_of e) said) f fs n → (k : Rndf.Kind) → kind_at (Machine.lenient rndf-places) (rndf_lexis_in e) p f ≡ some k
        → ToldAt rndf-places (rndf_lexis_in e) (rndf_line_in_of e) (SpellsNetworkBy (under e false)) Law.SpellsNetwork name_due (rndf-lenient-needs_in e) (rndf_low_in e) (rndf-lows e) (rndf_options e) (rndf_due e) (laws (rndf_line_in_of e) said) p f fs n k (field_at (Machine.lenient rndf-places) (rndf_lexis_in e) (rndf_low_in e) p n f fs)
    rndf-told-at = expected-field rndf-places (rndf_lexis_in e) (rndf_line_in_of e) (SpellsNetworkBy (under e false)) Law.SpellsNetwork name_due (rndf-lenient-needs_in e) (rndf_low_in e) (rndf-lows e) (rndf_options e) (rndf_due e) said p came fits (λ k. lasting-alive (form_of_kind (Machine.lenient rndf-places) (rndf_options e) (rndf_due e) p k) (alive k))

    rndf-kind : (f : Field) (fs : List Field) (n : ℕ) → Among n (8 ∷ 9 ∷ []) → FieldFault (reading (law_of e)) Law.SpellsNetwork (laws (rndf_line_in_of e) said) f fs n → (k : Rndf.Kind) × (kind_at (Machine.lenient rndf-places) (rndf_lexis_in e) p f ≡ some k) × (stands (Machine.lenient rndf-places) p k ≡ none)
    rndf-kind = fault-kind rndf-places (rndf_lexis_in e) (rndf_line_in_of e) (SpellsNetworkBy (under e false)) Law.SpellsNetwork name_due (rndf-lenient-needs_in e) (rndf_low_in e) (rndf-lows e) (rndf_options e) (rndf_due e) said p came fits (λ k. lasting-alive (form_of_kind (Machine.lenient rndf-places) (rndf_options e) (rndf_due e) p k) (alive k))

    -- exactly what is expected
    pub rndf-expected-field : (f : Field) (fs : List Field) (n : ℕ) → Among n (8 ∷ 9 ∷ []) → FieldFault (reading (law_of e)) Law.SpellsNetwork (laws (rndf_line_in_of e) said) f fs n → (k : Rndf.Kind) → kind_at (Machine.lenient rndf-places) (rndf_lexis_in e) p f ≡ some k
        → Expected (reading (law_of e)) Law.SpellsNetwork (laws (rndf_line_in_of e) said) f fs n (field_told (Machine.lenient rndf-places) (rndf_lexis_in e) (rndf_low_in e) (rndf_options e) (rndf_due e) p k (field_at (Machine.lenient rndf-places) (rndf_lexis_in e) (rndf_low_in e) p n f fs) f fs)
    rndf-expected-field f fs n a fault k is = (rndf-told-at f fs n a fault k is).expected

    -- its words, by the present edition's places
    rndf-words-at : (f : Field) (fs : List Field) (n : ℕ) → Among n (8 ∷ 9 ∷ []) → FieldFault (reading (law_of e)) Law.SpellsNetwork (laws (rndf_line_in_of e) said) f fs n
        → (k : Rndf.Kind) × (kind_at (rndf Field) rndf_lexis p f ≡ some k) × (stands (rndf Field) p k ≡ none) × (field_at (rndf Field) rndf_lexis rndf_low p n f fs < length (the_rndf_form_of e p k))
        × (x : Expectation) × Expected (reading (law_of e)) Law.SpellsNetwork (laws (rndf_line_in_of e) said) f fs n x × (told (field [] (item_at_of (field_at (rndf Field) rndf_lexis rndf_low p n f fs) (the_rndf_form_of e p k))) ≡ told x)
    unfolding field_told
    rndf-words-at f fs n a fault =
        let k = rndf-kind f fs n a fault in
        let x = rndf-told-at f fs n a fault k.0 k.1 in
        let i = field_at (Machine.lenient rndf-places) (rndf_lexis_in e) (rndf_low_in e) p n f fs in
        let form = form_of_kind (Machine.lenient rndf-places) (rndf_options e) (rndf_due e) p k.0 in
        let same : field_at (rndf Field) rndf_lexis rndf_low p n f fs ≡ i = sym (field-edition e p n f fs) ∙ field-lenient rndf-places (rndf_lexis_in e) (rndf_low_in e) p n f fs in
        let it : item_at_of (field_at (rndf Field) rndf_lexis rndf_low p n f fs) (the_rndf_form_of e p k.0) ≡ item_at_of i form = λ j. item_at_of (same j) (form-lenient rndf-places (rndf_options e) (rndf_due e) p k.0 j) in (
          k.0,
          sym (kind-edition e p f) ∙ sym (kind-same rndf-places (rndf_lexis_in e) p f) ∙ k.1,
          sym (stands_same e p k.0) ∙ sym (stands-lenient rndf-places p k.0) ∙ k.2,
          subst (λ (j : ℕ). j < length (the_rndf_form_of e p k.0)) (sym same) (subst (λ (form : Form). i < length form) (sym (form-lenient rndf-places (rndf_options e) (rndf_due e) p k.0)) x.inside-form),
          field_told (Machine.lenient rndf-places) (rndf_lexis_in e) (rndf_low_in e) (rndf_options e) (rndf_due e) p k.0 i f fs,
          x.expected,
          ap (λ (a : Item). told (field [] a)) it ∙ told_same form i (alive-at form (alive k.0) i) (permitted (Machine.lenient rndf-places) (rndf_lexis_in e) (rndf_low_in e) p k.0 i f fs) (f ∷ fs),
        )

  pub rndf-field-words : (text : Bytes) (i n : ℕ) (bad : BadLine (reading (law_of e)) Law.SpellsNetwork text i n) → Among n (8 ∷ 9 ∷ []) → {content : Bytes} {f : Field} {fs : List Field} → Ended bad.this content → Content 0 content (f ∷ fs)
      → (said : List (S (Rndf.lines Field))) (p : Place (rndf Field)) → bad.front ≡ laws (rndf_line_in_of e) said → Came rndf-places (rndf_lexis_in e) (rndf_line_in_of e) (SpellsNetworkBy (under e true)) Law.SpellsNetwork name_due (rndf-needs_in e) said p
      → (k : Rndf.Kind) × (kind_at (rndf Field) rndf_lexis p f ≡ some k) × (stands (rndf Field) p k ≡ none) × (field_at (rndf Field) rndf_lexis rndf_low p n f fs < length (the_rndf_form_of e p k))
      × (x : Expectation) × Expected (reading (law_of e)) Law.SpellsNetwork bad.front f fs n x × (told (field [] (item_at_of (field_at (rndf Field) rndf_lexis rndf_low p n f fs) (the_rndf_form_of e p k))) ≡ told x)
  rndf-field-words text i n bad a {content} {f} {fs} ended c said p is came =
      let fault = subst (λ (front : List Line). FieldFault (reading (law_of e)) Law.SpellsNetwork front f fs n) is (of_fields e Law.SpellsNetwork bad.front bad.this n a bad.fault ended c) in
      let x = rndf-words-at said p (run-lenient rndf-places (at rndf-places name_due) p said came) f fs n a fault in
      (x.0, x.1, x.2, x.3, x.4, subst (λ (front : List Line). Expected (reading (law_of e)) Law.SpellsNetwork front f fs n x.4) (sym is) x.5, x.6)

  -- ## MDF
  mdf-due_lasting : (b : M-at.Base) → Lasting (mdf_due b)
  mdf-due_lasting M-at.name_due = lasting-alive (mdf_due M-at.name_due) (tt, (tt, tt))
  mdf-due_lasting M-at.RNDF_due = lasting-alive (mdf_due M-at.RNDF_due) (tt, (tt, tt))
  mdf-due_lasting M-at.checkpoints_due = lasting-alive (mdf_due M-at.checkpoints_due) (tt, tt)
  mdf-due_lasting M-at.num_checkpoints_due = lasting-alive (mdf_due M-at.num_checkpoints_due) (tt, ((omega arith, tt), tt))
  mdf-due_lasting M-at.speed_limits_due = lasting-alive (mdf_due M-at.speed_limits_due) (tt, tt)
  mdf-due_lasting M-at.num_speed_limits_due = lasting-alive (mdf_due M-at.num_speed_limits_due) (tt, ((omega arith, tt), tt))
  mdf-due_lasting M-at.end_file_due = lasting-alive (mdf_due M-at.end_file_due) (tt, tt)
  mdf-due_lasting (M-at.goal_due zero) = lasting-alive (mdf_due (M-at.goal_due zero)) (tt, tt)
  mdf-due_lasting (M-at.goal_due (suc g)) = lasting-alive (mdf_due (M-at.goal_due (suc g))) ((omega arith, tt), tt)
  mdf-due_lasting (M-at.limit_due zero) = lasting-alive (mdf_due (M-at.limit_due zero)) (tt, tt)
  mdf-due_lasting (M-at.limit_due (suc l)) = lasting-limit

  mdf_lasting : (p : Place (mdf Field)) (k : Mdf.Kind) → Lasting (mdf_form p k)
  unfolding form_of_kind
  mdf_lasting over k = record { goes_on = tt; alone_so = tt }
  mdf_lasting (inside b g) k = of-form e (Mdf.orders Field) the_mdf_line_of Lasting (M-at.opts Field b) (mdf_options b) k (mdf_due b) (mdf-due_lasting b) (each_lasting (mdf_options b) (mdf-options_live e b))

  module _ (said : List (S (Mdf.orders Field))) (p : Place (mdf Field)) (came : Came (Machine.lenient (mdf Field)) mdf_lexis the_mdf_line_of SpellsMission Law.SpellsMission M-at.name_due (mdf-lenient-needs_in e) said p) where
    mdf-told-at : (f : Field) (fs : List Field) (n : ℕ) → Among n (8 ∷ 9 ∷ []) → FieldFault (reading (law_of e)) Law.SpellsMission (laws the_mdf_line_of said) f fs n → (k : Mdf.Kind) → kind_at (mdf Field) mdf_lexis p f ≡ some k
        → ToldAt (mdf Field) mdf_lexis the_mdf_line_of SpellsMission Law.SpellsMission M-at.name_due (mdf-lenient-needs_in e) mdf_low (mdf-lows e) mdf_options mdf_due (laws the_mdf_line_of said) p f fs n k (field_at (mdf Field) mdf_lexis mdf_low p n f fs)
    mdf-told-at = expected-field (mdf Field) mdf_lexis the_mdf_line_of SpellsMission Law.SpellsMission M-at.name_due (mdf-lenient-needs_in e) mdf_low (mdf-lows e) mdf_options mdf_due said p came (mdf-lenient-fits e p) (mdf_lasting p)

    mdf-kind : (f : Field) (fs : List Field) (n : ℕ) → Among n (8 ∷ 9 ∷ []) → FieldFault (reading (law_of e)) Law.SpellsMission (laws the_mdf_line_of said) f fs n → (k : Mdf.Kind) × (kind_at (mdf Field) mdf_lexis p f ≡ some k) × (stands (mdf Field) p k ≡ none)
    mdf-kind = fault-kind (mdf Field) mdf_lexis the_mdf_line_of SpellsMission Law.SpellsMission M-at.name_due (mdf-lenient-needs_in e) mdf_low (mdf-lows e) mdf_options mdf_due said p came (mdf-lenient-fits e p) (mdf_lasting p)

    -- exactly what is expected
    pub mdf-expected-field : (f : Field) (fs : List Field) (n : ℕ) → Among n (8 ∷ 9 ∷ []) → FieldFault (reading (law_of e)) Law.SpellsMission (laws the_mdf_line_of said) f fs n → (k : Mdf.Kind) → kind_at (mdf Field) mdf_lexis p f ≡ some k
        → Expected (reading (law_of e)) Law.SpellsMission (laws the_mdf_line_of said) f fs n (field_told (mdf Field) mdf_lexis mdf_low mdf_options mdf_due p k (field_at (mdf Field) mdf_lexis mdf_low p n f fs) f fs)
    mdf-expected-field f fs n a fault k is = (mdf-told-at f fs n a fault k is).expected

    -- its words
    mdf-words-at : (f : Field) (fs : List Field) (n : ℕ) → Among n (8 ∷ 9 ∷ []) → FieldFault (reading (law_of e)) Law.SpellsMission (laws the_mdf_line_of said) f fs n
        → (k : Mdf.Kind) × (kind_at (mdf Field) mdf_lexis p f ≡ some k) × (stands (mdf Field) p k ≡ none) × (field_at (mdf Field) mdf_lexis mdf_low p n f fs < length (mdf_form p k))
        × (x : Expectation) × Expected (reading (law_of e)) Law.SpellsMission (laws the_mdf_line_of said) f fs n x × (told (mdf_field_told (mdf_form p k) (field_at (mdf Field) mdf_lexis mdf_low p n f fs) (f ∷ fs)) ≡ told x)
    mdf-words-at f fs n a fault =
        let k = mdf-kind f fs n a fault in
        let x = mdf-told-at f fs n a fault k.0 k.1 in
        let i = field_at (mdf Field) mdf_lexis mdf_low p n f fs in
        (k.0, k.1, k.2, x.inside-form, field_told (mdf Field) mdf_lexis mdf_low mdf_options mdf_due p k.0 i f fs, x.expected, words_in p k.0 k.2 i x.inside-form f fs)

  pub mdf-field-words : (text : Bytes) (i n : ℕ) (bad : BadLine (reading (law_of e)) Law.SpellsMission text i n) → Among n (8 ∷ 9 ∷ []) → {content : Bytes} {f : Field} {fs : List Field} → Ended bad.this content → Content 0 content (f ∷ fs)
      → (said : List (S (Mdf.orders Field))) (p : Place (mdf Field)) → bad.front ≡ laws the_mdf_line_of said → Came (mdf Field) mdf_lexis the_mdf_line_of SpellsMission Law.SpellsMission M-at.name_due (mdf-needs_in e) said p
      → (k : Mdf.Kind) × (kind_at (mdf Field) mdf_lexis p f ≡ some k) × (stands (mdf Field) p k ≡ none) × (field_at (mdf Field) mdf_lexis mdf_low p n f fs < length (mdf_form p k))
      × (x : Expectation) × Expected (reading (law_of e)) Law.SpellsMission bad.front f fs n x × (told (mdf_field_told (mdf_form p k) (field_at (mdf Field) mdf_lexis mdf_low p n f fs) (f ∷ fs)) ≡ told x)
  mdf-field-words text i n bad a {content} {f} {fs} ended c said p is came =
      let fault = subst (λ (front : List Line). FieldFault (reading (law_of e)) Law.SpellsMission front f fs n) is (of_fields e Law.SpellsMission bad.front bad.this n a bad.fault ended c) in
      let x = mdf-words-at said p came f fs n a fault in
      (x.0, x.1, x.2, x.3, x.4, subst (λ (front : List Line). Expected (reading (law_of e)) Law.SpellsMission front f fs n x.4) (sym is) x.5, x.6)
