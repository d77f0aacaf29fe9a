-- THE THEOREMS of an MDF: what is told of line i of a text is told of what the law expects there: 5 to 9 and 25 in that line, 10 behind the last; nothing of 2, 3 and 4. Assumes nothing.
use Rattle.std.specs.Prelude.{Some, None}
use mathlib.Core.Path.{◌≡◌, refl, sym, ap, subst, ◌∙◌}
use mathlib.Core.List.{List, [], ◌∷◌, map}
use mathlib.Core.Option.{Option, none, some}
use mathlib.Core.Bool.{Bool, true, false}
use mathlib.Core.Logic.{◌⊎◌, inl, inr}
use Prim.Native.Nat.{ℕ, ◌≤◌, ◌<◌}
use native.Mathlib.Omega.{arith}
use borrow.Author.Tests.{eqb-true}
use lib.ListN.{length, take}
use lib.Dec.{eqb, ltb}
use Rattle.terms.specs.Ascii.{Bytes}
use Rattle.terms.specs.Words.{Among, pick}
use Rattle.terms.proofs.Tests.{nothing}
use Rattle.scan.specs.Reach.{up_to}
use Rattle.line.specs.Content.{Field, Content}
use Rattle.line.specs.Text.{Ended}
use Rattle.line.specs.Forms.{opens, fields_at, fields_in_of, field_in, part}
use Rattle.law.specs.Network.{Line}
use Rattle.law.specs.Network as Law
use Rattle.law.specs.Faults.{MayStand, FieldFault, BadLine, Unended}
use Rattle.law.specs.Faults as Faults
use Rattle.edition.specs.declared.Edition as DE
use Rattle.edition.specs.Editions.{inner, rules_of}
use Rattle.grammar.specs.Machine.{Stand, over, inside}
use Rattle.grammar.specs.PlaceRows.{mission_kind_row}
use Rattle.grammar.specs.PlaceTable.{mdf_table_of}
use Rattle.grammar.specs.MissionPlaces.{mdf, Base}
use Rattle.grammar.specs.Stands.{stands}
use Rattle.grammar.specs.MissionStatements.{Kind, orders}
use Rattle.text.specs.Judge.{kind_at}
use Rattle.text.specs.MdfLines.{the_mdf_line_of}
use Rattle.text.specs.MdfWords.{mdf_lexis}
use Rattle.law_columns.specs.Finding.{field_at}
use Rattle.law_columns.specs.Files.{mdf_low}
use Rattle.mission_place.specs.declared.MissionPlace as DP
use Rattle.mission_place.specs.Abstract.{abs_of}
use Rattle.mission_place.proofs.Theorems.{Sound}
use Rattle.mission_judge.specs.MdfLine.{mdf_kind, mdf_judging}
use Rattle.judge.proofs.Judged.{OfKind}
use Rattle.mission_judge.proofs.MdfTies.{row_in, kind-is, mdf_ties}
use Rattle.columns.specs.MdfColumns.{mdf_wrong, mdf_field_of}
use Rattle.columns.proofs.Ties.{field_is}
use Rattle.columns.proofs.MdfTies.{mdf_locates}
use Rattle.refusal.specs.Size.{most}
use Rattle.shown.specs.Shown.{line_in}
use Rattle.mission_column.specs.Before.{mission_place_before_of}
use Rattle.expected_law.specs.Expected.{Item, Form, Expectation, lines as told-lines, fields, field, ExpectedBehind, Expected, unknown}
use Rattle.expected_law.specs.Telling.{told}
use Rattle.expected_words.specs.Items.{law_item, law_form}
use Rattle.expected_forms.specs.Forms.{order_form_of, order_forms_at, owed_orders_of}
use Rattle.expected_exact.specs.Listed.{mdf_options, mdf_due}
use Rattle.expected_fields.specs.AtFields.{form_of_kind, item_at_of}
use Rattle.expected_fields.specs.FileFields.{mdf_form, maximum_behind, mdf_field_told}
use Rattle.expected_fields.proofs.Here.{form-by-kinds}
use Rattle.expected_fields.proofs.Files.{mdf-field-words}
use Rattle.expected_lines.specs.Words.{lists, lists_field_of, item_at, maximum_words, order_words, order_fields_words, mdf_line_words, mdf_behind, mdf_words}
use Rattle.expected_places.proofs.MdfForms.{order-of, due-order, option-orders}
use Rattle.expected_places.proofs.MdfPlaces.{mdf_expects-fields}
use Rattle.expected_texts.proofs.Lined.{Lined, lined}
use Rattle.expected_texts.proofs.ItemOf.{item-is}
use Rattle.expected_texts.proofs.MaximumWords.{maximum-is}
use Rattle.expected_texts.proofs.OfLine.{of-bytes, of_field, of-line, may_stand}
use Rattle.expected_texts.proofs.MdfTexts.{MdfStands, mdf-line-told, mdf-end-told, mdf-lists-there}
use Rattle.std.specs.Prelude as Rust

module _ (e : DE.Edition) where
  -- ## The words at a place
  at_place : (text : Bytes) (i n : ℕ) (p : DP.MissionPlace) → mission_place_before_of text i ≡ Some p → mdf_words text i n ≡ mdf_line_words (line_in text i) p n
  unfolding mdf_words
  at_place text i n p q = ap (mdf_behind (line_in text i) n) q

  whole-lines : (s : Bytes) (p : DP.MissionPlace) (n : ℕ) → lists n ≡ true → mdf_line_words s p n ≡ told (told-lines (owed_orders_of p) (order_forms_at mdf_table_of p))
  unfolding mdf_line_words
  whole-lines s p n t = rw t refl

  -- of a line with these fields, by its kind
  by_kind : (text : Bytes) (i n : ℕ) (p : DP.MissionPlace) {f : Field} {fs : List Field} (l : Lined text i f fs) (k : Kind) → mdf_kind p f.bytes ≡ mission_kind_row k → lists n ≡ false → mdf_line_words (line_in text i) p n ≡ order_words mdf_table_of l.outer p n (mission_kind_row k)
  unfolding mdf_line_words order_fields_words
  by_kind text i n p {f} l k q t =
      let kind : mdf_kind p (part l.outer (fields_in_of l.outer).a) ≡ mission_kind_row k = ap (λ (g : Field). mdf_kind p g.bytes) l.first ∙ q in
      rw (t, l.stands, kind, row_in k) refl

  -- ## 2, 3 and 4
  no_kind : (s : Bytes) (p : DP.MissionPlace) (n k : ℕ) → eqb n 7 ≡ false → lists_field_of n ≡ false → order_words mdf_table_of s p n k ≡ []
  unfolding order_words
  no_kind s p n k a b = rw (a, b) refl

  no_fields : (s : Bytes) (p : DP.MissionPlace) (n : ℕ) → lists n ≡ false → eqb n 7 ≡ false → lists_field_of n ≡ false → mdf_line_words s p n ≡ []
  unfolding mdf_line_words order_fields_words
  no_fields s p n t a b = rw t (go (mdf_kind p (part o (fields_in_of o).a)))
    where
      o : Bytes
      o = take (up_to opens s) s

      by : (k : ℕ) (x : Bool) → pick x (order_words mdf_table_of o p n k) [] ≡ []
      by k true = no_kind o p n k a b
      by k false = refl

      go : (k : ℕ) → pick (ltb k 13) (order_words mdf_table_of o p n k) [] ≡ []
      go k = by k (ltb k 13)

  pub mdf-no-words : (text : Bytes) (i n : ℕ) → Among n (2 ∷ 3 ∷ 4 ∷ []) → mdf_words text i n ≡ []
  unfolding mdf_words
  mdf-no-words text i n a = go (mission_place_before_of text i)
    where
      go : (x : Rust.Option DP.MissionPlace) → mdf_behind (line_in text i) n x ≡ []
      go None = refl
      go (Some p) = let q = of-bytes n a in no_fields (line_in text i) p n q.0 q.1 q.2

  -- ## 7
  seven : (text : Bytes) (i : ℕ) (p : DP.MissionPlace) {f : Field} {fs : List Field} (l : Lined text i f fs) (k : Kind) → mdf_kind p f.bytes ≡ mission_kind_row k → mdf_line_words (line_in text i) p 7 ≡ told (fields (law_form (order_form_of (mdf_kind p f.bytes))))
  unfolding lists order_words
  seven text i p l k q = by_kind text i 7 p l k q refl ∙ ap (λ (j : ℕ). told (fields (law_form (order_form_of j)))) (sym q)

  -- ## 8 and 9
  one_field : (s : Bytes) (p : DP.MissionPlace) (n k : ℕ) → Among n (8 ∷ 9 ∷ [])
      → order_words mdf_table_of s p n k ≡ pick (eqb (mdf_field_of mdf_table_of s (fields_in_of s) p n) 2) (maximum_words s) (told (field [] (law_item (item_at (order_form_of k) (mdf_field_of mdf_table_of s (fields_in_of s) p n)))))
  unfolding order_words
  one_field s p n k a = let q = of_field n a in rw (q.1, q.2) refl

  -- the form of a kind that may stand, as expected_fields has it
  form-there : (q : Stand Base) (k : Kind) → stands (mdf Field) q k ≡ none → mdf_form q k ≡ order-of k
  unfolding stands
  form-there over k s = nothing (sym s)
  form-there (inside b g) k s = form-by-kinds (inner e) (orders Field) the_mdf_line_of (mdf Field) mdf_options mdf_due order-of b g (sym (due-order b)) (sym (option-orders b)) k s

  module _ (text : Bytes) (i n : ℕ) (p : DP.MissionPlace) (sound : Sound p) (a : Among n (8 ∷ 9 ∷ [])) {f : Field} {fs : List Field} (l : Lined text i f fs) (k : Kind) where
    abbrev j : ℕ
    j = field_at (mdf Field) mdf_lexis mdf_low (abs_of p) n f fs

    -- as the program finds it
    abbrev found : ℕ
    found = mdf_field_of mdf_table_of l.outer (fields_in_of l.outer) p n

    same-field : found ≡ j
    same-field =
        let o = l.outer in
        let fielded : fields_at 0 o ≡ field_in 0 o (fields_in_of o).a ∷ fs = l.fielded ∙ ap (λ (g : Field). g ∷ fs) (sym l.first) in
        field_is (mdf Field) mdf_lexis mdf_judging mdf_ties mdf_low (λ p. mdf_wrong) mdf_locates p sound n o fs fielded ∙ ap (λ (g : Field). field_at (mdf Field) mdf_lexis mdf_low (abs_of p) n g fs) l.first

    either : (x : Bool) → eqb found 2 ≡ x → (item : Item) → law_item (item_at (order_form_of (mission_kind_row k)) found) ≡ item
        → pick x (maximum_words l.outer) (told (field [] (law_item (item_at (order_form_of (mission_kind_row k)) found)))) ≡ told (pick x (maximum_behind (f ∷ fs)) (field [] item))
    either true q item is = maximum-is l.outer p n f fs a l.first l.fielded (eqb-true found 2 q)
    either false q item is = ap (λ (x : Item). told (field [] x)) is

    field-words : kind_at (mdf Field) mdf_lexis (abs_of p) f ≡ some k → stands (mdf Field) (abs_of p) k ≡ none → j < length (mdf_form (abs_of p) k) → mdf_line_words (line_in text i) p n ≡ told (mdf_field_told (mdf_form (abs_of p) k) j (f ∷ fs))
    field-words q s h =
        let kind : mdf_kind p f.bytes ≡ mission_kind_row k = subst (OfKind (mdf Field) mdf_lexis mdf_judging mission_kind_row p (mdf_kind p f.bytes)) q (kind-is p sound f) in
        let form : mdf_form (abs_of p) k ≡ order-of k = form-there (abs_of p) k s in
        let item : item_at_of j (mdf_form (abs_of p) k) ≡ law_item (item_at (order_form_of (mission_kind_row k)) j) = ap (item_at_of j) form ∙ item-is (order_form_of (mission_kind_row k)) j (subst (λ (x : Form). j < length x) form h) in
        let is : law_item (item_at (order_form_of (mission_kind_row k)) found) ≡ item_at_of j (mdf_form (abs_of p) k) = ap (λ (m : ℕ). law_item (item_at (order_form_of (mission_kind_row k)) m)) same-field ∙ sym item in
        by_kind text i n p l k kind (of_field n a).0 ∙ one_field l.outer p n (mission_kind_row k) a ∙ either (eqb found 2) refl (item_at_of j (mdf_form (abs_of p) k)) is
        ∙ ap (λ (m : ℕ). told (pick (eqb m 2) (maximum_behind (f ∷ fs)) (field [] (item_at_of j (mdf_form (abs_of p) k))))) same-field

  -- ## Of a text
  module _ (text : Bytes) (size : length text ≤ most) where
    -- what is told of this line, with this refusal, is expected of these fields
    abbrev ToldRight : (i n : ℕ) (front : List Line) (f : Field) (fs : List Field) → Type 0
    ToldRight i n front f fs = (x : Expectation) × Expected (rules_of e) Law.SpellsMission front f fs n x × (mdf_words text i n ≡ told x)

    by_lines : (i n : ℕ) (bad : BadLine (rules_of e) Law.SpellsMission text i n) (f : Field) (fs : List Field) → lists n ≡ true → Among n (5 ∷ 6 ∷ 25 ∷ []) → ToldRight i n bad.front f fs
    by_lines i n bad f fs t a =
        let s = mdf-line-told e text size i n bad in
        (told-lines (owed_orders_of s.place) (order_forms_at mdf_table_of s.place), unknown a (mdf-lists-there e text size i bad.front s), at_place text i n s.place s.found ∙ whole-lines (line_in text i) s.place n t)

    module _ (i n : ℕ) (bad : BadLine (rules_of e) Law.SpellsMission text i n) {content : Bytes} {f : Field} {fs : List Field} (ended : Ended bad.this content) (c : Content 0 content (f ∷ fs)) where
      this-line : Lined text i f fs
      this-line = lined text i bad.at.before bad.this bad.at.rest bad.at.cut bad.at.number ended c

      by-fields : n ≡ 7 → ToldRight i n bad.front f fs
      by-fields q =
          let s = mdf-line-told e text size i n bad in
          let p = s.place in
          let m = may_stand e Law.SpellsMission bad.front n q (of-line e Law.SpellsMission bad.front bad.this n (omega (arith, q)) bad.fault ended c) in
          let x = mdf_expects-fields e p s.sound s.said s.came f fs m.0 (subst (λ (front : List Line). MayStand (rules_of e) Law.SpellsMission front f m.0) s.is m.1) in
          let told_of = fields (law_form (order_form_of (mdf_kind p f.bytes))) in
          (told_of, subst (λ (n : ℕ). Expected (rules_of e) Law.SpellsMission bad.front f fs n told_of) (sym q) (subst (λ (front : List Line). Expected (rules_of e) Law.SpellsMission front f fs 7 told_of) (sym s.is) x.2), at_place text i n p s.found ∙ ap (mdf_line_words (line_in text i) p) q ∙ seven text i p this-line x.0 x.1)

      by_field : Among n (8 ∷ 9 ∷ []) → ToldRight i n bad.front f fs
      by_field a =
          let s = mdf-line-told e text size i n bad in
          let p = s.place in
          let y = mdf-field-words (inner e) text i n bad a ended c s.said (abs_of p) s.is s.came in
          (y.4, y.5, at_place text i n p s.found ∙ field-words text i n p s.sound a this-line y.0 y.1 y.2 y.3 ∙ y.6)

      by_number : Among n (5 ∷ 6 ∷ 7 ∷ 8 ∷ 9 ∷ 25 ∷ []) → ToldRight i n bad.front f fs
      unfolding lists
      by_number (inl q) = by_lines i n bad f fs (ap lists q) (inl q)
      by_number (inr (inl q)) = by_lines i n bad f fs (ap lists q) (inr (inl q))
      by_number (inr (inr (inl q))) = by-fields q
      by_number (inr (inr (inr (inl q)))) = by_field (inl q)
      by_number (inr (inr (inr (inr (inl q))))) = by_field (inr (inl q))
      by_number (inr (inr (inr (inr (inr (inl q)))))) = by_lines i n bad f fs (ap lists q) (inr (inr (inl q)))
      by_number (inr (inr (inr (inr (inr (inr q)))))) = absurd q

    -- 5 to 9 and 25
    pub mdf-line-words : (i n : ℕ) (bad : BadLine (rules_of e) Law.SpellsMission text i n) {content : Bytes} {f : Field} {fs : List Field} → Among n (5 ∷ 6 ∷ 7 ∷ 8 ∷ 9 ∷ 25 ∷ []) → Ended bad.this content → Content 0 content (f ∷ fs)
        → (x : Expectation) × Expected (rules_of e) Law.SpellsMission bad.front f fs n x × (mdf_words text i n ≡ told x)
    mdf-line-words i n bad a ended c = by_number i n bad ended c a

    -- 10
    pub mdf-end-words : (i : ℕ) (short : Unended (rules_of e) Law.SpellsMission text i) → (x : Expectation) × ExpectedBehind (rules_of e) Law.SpellsMission short.said x × (mdf_words text i 10 ≡ told x)
    unfolding lists
    mdf-end-words i short =
        let s = mdf-end-told e text size i short in
        (told-lines (owed_orders_of s.place) (order_forms_at mdf_table_of s.place), mdf-lists-there e text size i short.said s, at_place text i 10 s.place s.found ∙ whole-lines (line_in text i) s.place 10 refl)
