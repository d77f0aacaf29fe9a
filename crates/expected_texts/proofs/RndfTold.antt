-- THE THEOREMS of an RNDF: what is told of line i of a text is told of what the law expects there: 5 to 9 and 25 in that line, 10 behind the last; nothing of 2, 3 and 4. Assumes nothing.
use Rattle.std.specs.Prelude.{Some, None}
use mathlib.Core.Path.{◌≡◌, refl, sym, ap, subst, ◌∙◌}
use mathlib.Core.List.{List, [], ◌∷◌, map}
use mathlib.Core.Option.{Option, none, some}
use mathlib.Core.Bool.{Bool, true, false}
use mathlib.Core.Logic.{◌⊎◌, inl, inr}
use Prim.Native.Nat.{ℕ, ◌≤◌, ◌<◌}
use native.Mathlib.Omega.{arith}
use lib.ListN.{length, take}
use lib.Dec.{eqb, ltb}
use Rattle.terms.specs.Ascii.{Bytes}
use Rattle.terms.specs.Words.{Among, pick}
use Rattle.terms.proofs.Tests.{nothing}
use Rattle.scan.specs.Reach.{up_to}
use Rattle.line.specs.Content.{Field, Content}
use Rattle.line.specs.Text.{Ended}
use Rattle.line.specs.Forms.{opens, fields_at, fields_in_of, field_in, part}
use Rattle.law.specs.Network.{Line}
use Rattle.law.specs.Network as Law
use Rattle.law.specs.Faults.{MayStand, FieldFault, BadLine, Unended}
use Rattle.law.specs.Faults as Faults
use Rattle.edition.specs.declared.Edition as DE
use Rattle.edition.specs.Editions.{inner, rules_of}
use Rattle.grammar.specs.Machine.{Stand, over, inside}
use Rattle.grammar.specs.Network.{under}
use Rattle.grammar.specs.PlaceRows.{kind_row}
use Rattle.grammar.specs.PlaceTable.{rndf_table_of}
use Rattle.grammar.specs.Places.{rndf, rndf_by, opts, due_in, Base}
use Rattle.grammar.specs.Stands.{stands}
use Rattle.grammar.specs.Statements.{Kind, lines}
use Rattle.grammar.proofs.Keeping.{GoodPlace}
use Rattle.text.specs.Judge.{kind_at}
use Rattle.text.specs.RndfLines.{rndf_line_in_of}
use Rattle.text.specs.RndfWords.{rndf_lexis}
use Rattle.text.proofs.RndfText.{Bounded}
use Rattle.law_columns.specs.Finding.{field_at}
use Rattle.law_columns.specs.Files.{rndf_low}
use Rattle.editions.proofs.Steps.{stands_same}
use Rattle.place.specs.declared.Place as DP
use Rattle.place.specs.Abstract.{place_of, abs_of}
use Rattle.place.proofs.Theorems.{Sound}
use Rattle.judge.specs.RndfLine.{rndf_kind, rndf_judging}
use Rattle.judge.proofs.Judged.{OfKind}
use Rattle.judge.proofs.RndfTies.{row_in, kind-is, rndf_ties}
use Rattle.columns.specs.RndfColumns.{rndf_wrong, rndf_field_of}
use Rattle.columns.proofs.Ties.{field_is}
use Rattle.columns.proofs.RndfTies.{rndf_locates}
use Rattle.refusal.specs.Size.{most}
use Rattle.shown.specs.Shown.{line_in}
use Rattle.column.specs.Before.{place_before_of}
use Rattle.expected_law.specs.Expected.{Item, Form, Expectation, lines as told-lines, fields, field, ExpectedBehind, Expected, unknown}
use Rattle.expected_law.specs.Telling.{told}
use Rattle.expected_words.specs.Items.{law_item, law_form}
use Rattle.expected_forms.specs.Forms.{rndf_form_of, forms_at, the_owed_of}
use Rattle.expected_exact.specs.Listed.{rndf_options, rndf_due}
use Rattle.expected_fields.specs.AtFields.{form_of_kind, item_at_of}
use Rattle.expected_fields.specs.FileFields.{the_rndf_form_of}
use Rattle.expected_fields.proofs.Here.{form-by-kinds}
use Rattle.expected_fields.proofs.Files.{rndf-field-words}
use Rattle.expected_lines.specs.Words.{lists, lists_field_of, item_at, kind_words, fields_words, rndf_line_words, rndf_behind, rndf_words}
use Rattle.expected_places.proofs.RndfForms.{kind-form, due-form, option_forms}
use Rattle.expected_places.proofs.RndfPlaces.{rndf-bounded, rndf_expects-fields}
use Rattle.expected_texts.proofs.Lined.{Lined, lined}
use Rattle.expected_texts.proofs.ItemOf.{item-is}
use Rattle.expected_texts.proofs.OfLine.{of-bytes, of_field, of-line, may_stand}
use Rattle.expected_texts.proofs.RndfTexts.{RndfStands, rndf-line-told, rndf-end-told, rndf-lists-there}
use Rattle.std.specs.Prelude as Rust

module _ (e : DE.Edition) where
  -- ## The words at a place
  at_place : (text : Bytes) (i n : ℕ) (p : DP.Place) → place_before_of text i ≡ Some p → rndf_words e text i n ≡ rndf_line_words e (line_in text i) p n
  unfolding rndf_words
  at_place text i n p q = ap (rndf_behind e (line_in text i) n) q

  whole-lines : (s : Bytes) (p : DP.Place) (n : ℕ) → lists n ≡ true → rndf_line_words e s p n ≡ told (told-lines (the_owed_of p) (forms_at e rndf_table_of p))
  unfolding rndf_line_words
  whole-lines s p n t = rw t refl

  -- of a line with these fields, by its kind
  by_kind : (text : Bytes) (i n : ℕ) (p : DP.Place) {f : Field} {fs : List Field} (l : Lined text i f fs) (k : Kind) → rndf_kind f.bytes ≡ kind_row k → lists n ≡ false → rndf_line_words e (line_in text i) p n ≡ kind_words e rndf_table_of l.outer p n (kind_row k)
  unfolding rndf_line_words fields_words
  by_kind text i n p {f} l k q t =
      let kind : rndf_kind (part l.outer (fields_in_of l.outer).a) ≡ kind_row k = ap (λ (g : Field). rndf_kind g.bytes) l.first ∙ q in
      rw (t, l.stands, kind, row_in k) refl

  -- ## 2, 3 and 4
  no_kind : (s : Bytes) (p : DP.Place) (n k : ℕ) → eqb n 7 ≡ false → lists_field_of n ≡ false → kind_words e rndf_table_of s p n k ≡ []
  unfolding kind_words
  no_kind s p n k a b = rw (a, b) refl

  no_fields : (s : Bytes) (p : DP.Place) (n : ℕ) → lists n ≡ false → eqb n 7 ≡ false → lists_field_of n ≡ false → rndf_line_words e s p n ≡ []
  unfolding rndf_line_words fields_words
  no_fields s p n t a b = rw t (go (rndf_kind (part o (fields_in_of o).a)))
    where
      o : Bytes
      o = take (up_to opens s) s

      by : (k : ℕ) (x : Bool) → pick x (kind_words e rndf_table_of o p n k) [] ≡ []
      by k true = no_kind o p n k a b
      by k false = refl

      go : (k : ℕ) → pick (ltb k 30) (kind_words e rndf_table_of o p n k) [] ≡ []
      go k = by k (ltb k 30)

  pub rndf-no-words : (text : Bytes) (i n : ℕ) → Among n (2 ∷ 3 ∷ 4 ∷ []) → rndf_words e text i n ≡ []
  unfolding rndf_words
  rndf-no-words text i n a = go (place_before_of text i)
    where
      go : (x : Rust.Option DP.Place) → rndf_behind e (line_in text i) n x ≡ []
      go None = refl
      go (Some p) = let q = of-bytes n a in no_fields (line_in text i) p n q.0 q.1 q.2

  -- ## 7
  seven : (text : Bytes) (i : ℕ) (p : DP.Place) {f : Field} {fs : List Field} (l : Lined text i f fs) (k : Kind) → rndf_kind f.bytes ≡ kind_row k → rndf_line_words e (line_in text i) p 7 ≡ told (fields (law_form (rndf_form_of e p (rndf_kind f.bytes))))
  unfolding lists kind_words
  seven text i p l k q = by_kind text i 7 p l k q refl ∙ ap (λ (j : ℕ). told (fields (law_form (rndf_form_of e p j)))) (sym q)

  -- ## 8 and 9
  one_field : (s : Bytes) (p : DP.Place) (n k : ℕ) → Among n (8 ∷ 9 ∷ []) → kind_words e rndf_table_of s p n k ≡ told (field [] (law_item (item_at (rndf_form_of e p k) (rndf_field_of rndf_table_of s (fields_in_of s) p n))))
  unfolding kind_words
  one_field s p n k a = let q = of_field n a in rw (q.1, q.2) refl

  -- the form of a kind that may stand, as expected_fields has it
  form-there : (q : Stand Base) → GoodPlace (rndf_by Field (under (inner e) true)) Bounded q → (k : Kind) → stands (rndf_by Field (under (inner e) true)) q k ≡ none → the_rndf_form_of (inner e) q k ≡ kind-form e (place_of q) k
  unfolding stands
  form-there over h k s = nothing (sym s)
  form-there (inside b g) h k s = form-by-kinds (inner e) (lines Field) (rndf_line_in_of (inner e)) (rndf_by Field (under (inner e) true)) (rndf_options (inner e)) (rndf_due (inner e)) (kind-form e (place_of (inside b g))) b g (sym (due-form e b g h)) (sym (option_forms e b g)) k s

  module _ (text : Bytes) (i n : ℕ) (p : DP.Place) (sound : Sound p) (good : GoodPlace (rndf_by Field (under (inner e) true)) Bounded (abs_of p)) (a : Among n (8 ∷ 9 ∷ [])) {f : Field} {fs : List Field} (l : Lined text i f fs) (k : Kind) where
    abbrev j : ℕ
    j = field_at (rndf Field) rndf_lexis rndf_low (abs_of p) n f fs

    same-field : rndf_field_of rndf_table_of l.outer (fields_in_of l.outer) p n ≡ j
    same-field =
        let o = l.outer in
        let fielded : fields_at 0 o ≡ field_in 0 o (fields_in_of o).a ∷ fs = l.fielded ∙ ap (λ (g : Field). g ∷ fs) (sym l.first) in
        field_is (rndf Field) rndf_lexis rndf_judging rndf_ties rndf_low rndf_wrong rndf_locates p sound n o fs fielded ∙ ap (λ (g : Field). field_at (rndf Field) rndf_lexis rndf_low (abs_of p) n g fs) l.first

    field-words : kind_at (rndf Field) rndf_lexis (abs_of p) f ≡ some k → stands (rndf Field) (abs_of p) k ≡ none → j < length (the_rndf_form_of (inner e) (abs_of p) k) → rndf_line_words e (line_in text i) p n ≡ told (field [] (item_at_of j (the_rndf_form_of (inner e) (abs_of p) k)))
    field-words q s h =
        let kind : rndf_kind f.bytes ≡ kind_row k = subst (OfKind (rndf Field) rndf_lexis rndf_judging kind_row p (rndf_kind f.bytes)) q (kind-is p sound f) in
        let form : the_rndf_form_of (inner e) (abs_of p) k ≡ kind-form e p k = form-there (abs_of p) good k (stands_same (inner e) (abs_of p) k ∙ s) ∙ ap (λ (r : DP.Place). kind-form e r k) sound in
        let item : item_at_of j (the_rndf_form_of (inner e) (abs_of p) k) ≡ law_item (item_at (rndf_form_of e p (kind_row k)) j) = ap (item_at_of j) form ∙ item-is (rndf_form_of e p (kind_row k)) j (subst (λ (x : Form). j < length x) form h) in
        by_kind text i n p l k kind (of_field n a).0 ∙ one_field l.outer p n (kind_row k) a ∙ ap (λ (m : ℕ). told (field [] (law_item (item_at (rndf_form_of e p (kind_row k)) m)))) same-field ∙ ap (λ (x : Item). told (field [] x)) (sym item)

  -- ## Of a text
  module _ (text : Bytes) (size : length text ≤ most) where
    -- what is told of this line, with this refusal, is expected of these fields
    abbrev ToldRight : (i n : ℕ) (front : List Line) (f : Field) (fs : List Field) → Type 0
    ToldRight i n front f fs = (x : Expectation) × Expected (rules_of e) Law.SpellsNetwork front f fs n x × (rndf_words e text i n ≡ told x)

    by_lines : (i n : ℕ) (bad : BadLine (rules_of e) Law.SpellsNetwork text i n) (f : Field) (fs : List Field) → lists n ≡ true → Among n (5 ∷ 6 ∷ 25 ∷ []) → ToldRight i n bad.front f fs
    by_lines i n bad f fs t a =
        let s = rndf-line-told e text size i n bad in
        (told-lines (the_owed_of s.place) (forms_at e rndf_table_of s.place), unknown a (rndf-lists-there e text size i bad.front s), at_place text i n s.place s.found ∙ whole-lines (line_in text i) s.place n t)

    module _ (i n : ℕ) (bad : BadLine (rules_of e) Law.SpellsNetwork text i n) {content : Bytes} {f : Field} {fs : List Field} (ended : Ended bad.this content) (c : Content 0 content (f ∷ fs)) where
      this-line : Lined text i f fs
      this-line = lined text i bad.at.before bad.this bad.at.rest bad.at.cut bad.at.number ended c

      by-fields : n ≡ 7 → ToldRight i n bad.front f fs
      by-fields q =
          let s = rndf-line-told e text size i n bad in
          let p = s.place in
          let m = may_stand e Law.SpellsNetwork bad.front n q (of-line e Law.SpellsNetwork bad.front bad.this n (omega (arith, q)) bad.fault ended c) in
          let x = rndf_expects-fields e p s.sound s.said s.came f fs m.0 (subst (λ (front : List Line). MayStand (rules_of e) Law.SpellsNetwork front f m.0) s.is m.1) in
          let told_of = fields (law_form (rndf_form_of e p (rndf_kind f.bytes))) in
          (told_of, subst (λ (n : ℕ). Expected (rules_of e) Law.SpellsNetwork bad.front f fs n told_of) (sym q) (subst (λ (front : List Line). Expected (rules_of e) Law.SpellsNetwork front f fs 7 told_of) (sym s.is) x.2), at_place text i n p s.found ∙ ap (rndf_line_words e (line_in text i) p) q ∙ seven text i p this-line x.0 x.1)

      by_field : Among n (8 ∷ 9 ∷ []) → ToldRight i n bad.front f fs
      by_field a =
          let s = rndf-line-told e text size i n bad in
          let p = s.place in
          let y = rndf-field-words (inner e) text i n bad a ended c s.said (abs_of p) s.is s.came in
          (y.4, y.5, at_place text i n p s.found ∙ field-words text i n p s.sound (rndf-bounded e p s.sound s.said s.came) a this-line y.0 y.1 y.2 y.3 ∙ y.6)

      by_number : Among n (5 ∷ 6 ∷ 7 ∷ 8 ∷ 9 ∷ 25 ∷ []) → ToldRight i n bad.front f fs
      unfolding lists
      by_number (inl q) = by_lines i n bad f fs (ap lists q) (inl q)
      by_number (inr (inl q)) = by_lines i n bad f fs (ap lists q) (inr (inl q))
      by_number (inr (inr (inl q))) = by-fields q
      by_number (inr (inr (inr (inl q)))) = by_field (inl q)
      by_number (inr (inr (inr (inr (inl q))))) = by_field (inr (inl q))
      by_number (inr (inr (inr (inr (inr (inl q)))))) = by_lines i n bad f fs (ap lists q) (inr (inr (inl q)))
      by_number (inr (inr (inr (inr (inr (inr q)))))) = absurd q

    -- 5 to 9 and 25
    pub rndf-line-words : (i n : ℕ) (bad : BadLine (rules_of e) Law.SpellsNetwork text i n) {content : Bytes} {f : Field} {fs : List Field} → Among n (5 ∷ 6 ∷ 7 ∷ 8 ∷ 9 ∷ 25 ∷ []) → Ended bad.this content → Content 0 content (f ∷ fs)
        → (x : Expectation) × Expected (rules_of e) Law.SpellsNetwork bad.front f fs n x × (rndf_words e text i n ≡ told x)
    rndf-line-words i n bad a ended c = by_number i n bad ended c a

    -- 10
    pub rndf-end-words : (i : ℕ) (short : Unended (rules_of e) Law.SpellsNetwork text i) → (x : Expectation) × ExpectedBehind (rules_of e) Law.SpellsNetwork short.said x × (rndf_words e text i 10 ≡ told x)
    unfolding lists
    rndf-end-words i short =
        let s = rndf-end-told e text size i short in
        (told-lines (the_owed_of s.place) (forms_at e rndf_table_of s.place), rndf-lists-there e text size i short.said s, at_place text i 10 s.place s.found ∙ whole-lines (line_in text i) s.place 10 refl)
