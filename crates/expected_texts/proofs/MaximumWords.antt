-- What is told of a limit's maximum goes by the two fields before it; the field at fault is the third only of a line with three fields. Assumes nothing.
use Rattle.std.specs.Prelude.{Some, None, Option}
use mathlib.Core.Path.{◌≡◌, refl, sym, ap, subst, ◌∙◌}
use mathlib.Core.List.{List, [], ◌∷◌, tail-eq_of_cons-eq}
use mathlib.Core.Bool.{Bool, true, false}
use Prim.Native.Nat.{ℕ}
use native.Mathlib.Omega.{arith}
use borrow.Author.Tests.{eqb-true}
use lib.ListN.{get_or}
use lib.Dec.{eqb, ltb}
use Rattle.terms.specs.Ascii.{Bytes}
use Rattle.terms.specs.Words.{Among, pick}
use Rattle.line.specs.Content.{Field}
use Rattle.line.specs.Forms.{fields_at, fields_in_of, field_in, part}
use Rattle.line.specs.Forms as Forms
use Rattle.line.specs.declared.Fields.{Fields}
use Rattle.line.proofs.Spans.{fields-listed}
use Rattle.number.specs.Executable.{the_integer_of}
use Rattle.grammar.specs.PlaceTable.{mdf_table_of}
use Rattle.text.specs.Judge.{number, read}
use Rattle.statement.specs.declared.Order.TheVariants as or
use Rattle.made_out.specs.MadeOrders.{order_shapes, order_needs}
use Rattle.mission_place.specs.declared.MissionPlace.{MissionPlace}
use Rattle.mission_place.specs.Step.{permits_of, cell_of, refuses_by}
use Rattle.permitted.specs.MissionTests.{is_limit}
use Rattle.mission_judge.specs.MdfLine.{mdf_kind}
use Rattle.columns.specs.Locating.{kind_field_of, known_field_of, field_of}
use Rattle.columns.specs.MdfColumns.{limit_wrong_of, mdf_wrong, mdf_field_of}
use Rattle.expected_law.specs.Expected.{Expectation, field}
use Rattle.expected_law.specs.Telling.{told}
use Rattle.expected_words.specs.declared.Item.TheVariants as Item
use Rattle.expected_words.specs.Items.{law_item}
use Rattle.expected_fields.specs.FileFields.{maximum_told, maximum_behind}
use Rattle.expected_lines.specs.Words.{lists_field_of, goes_on_of, maximum_words}
use Rattle.expected_texts.proofs.OfLine.{of_field}

-- ## Three fields
module _ (s : Bytes) (f : Fields) (p : MissionPlace) (n : ℕ) where
  third : (known stand counted limit goal : Bool) (wrong : ℕ) → pick known (pick stand (pick counted (pick limit wrong (pick goal 0 1)) 0) 0) 0 ≡ 2 → (counted ≡ true) × (limit ≡ true)
  third true true true true goal wrong e = (refl, refl)
  third true true true false true wrong e = absurd (omega (arith, e))
  third true true true false false wrong e = absurd (omega (arith, e))
  third true true false limit goal wrong e = absurd (omega (arith, e))
  third true false counted limit goal wrong e = absurd (omega (arith, e))
  third false stand counted limit goal wrong e = absurd (omega (arith, e))

  abbrev k : ℕ
  k = mdf_kind p (part s f.a)

  three-fields : Among n (8 ∷ 9 ∷ []) → mdf_field_of mdf_table_of s f p n ≡ 2 → f.count ≡ 3
  unfolding field_of known_field_of kind_field_of mdf_wrong lists_field_of
  three-fields a q =
      let wrong = limit_wrong_of n (the_integer_of (part s f.a)) (the_integer_of (part s f.b)) in
      let x = third (ltb k 13) (eqb (refuses_by p (cell_of mdf_table_of p k)) 0) (eqb f.count (order_needs (get_or order_shapes k 0))) (eqb k 12) (eqb k 11) wrong (rw (of_field n a).2 at q) in
      eqb-true f.count (order_needs (get_or order_shapes k 0)) x.0 ∙ ap (λ (j : ℕ). order_needs (get_or order_shapes j 0)) (eqb-true k 12 x.1)

-- ## The maximum
told-picked : (x : Bool) (a b : Expectation) → pick x (told a) (told b) ≡ told (pick x a b)
told-picked true a b = refl
told-picked false a b = refl

by-numbers : (minimum : Bytes) (x y : Option ℕ) → pick (goes_on_of x y) (told (field minimum (law_item Item.Maximum))) (told (field [] (law_item (Item.Number 0 32768)))) ≡ told (maximum_told minimum (number x) (number y))
unfolding goes_on_of is_limit
by-numbers minimum None y = refl
by-numbers minimum (Some i) None = refl
by-numbers minimum (Some i) (Some m) = told-picked (permits_of (or.Limit i m 0)) _ _

two-before : (s : Bytes) (f g : Field) (gs : List Field) → field_in 0 s (fields_in_of s).a ≡ f → field_in 0 s (fields_in_of s).b ≡ g → maximum_words s ≡ told (maximum_behind (f ∷ g ∷ gs))
unfolding maximum_words read
two-before s f g gs a b =
    by-numbers (part s (fields_in_of s).b) (the_integer_of (part s (fields_in_of s).a)) (the_integer_of (part s (fields_in_of s).b))
    ∙ ap (λ (x : Field). told (maximum_told (part s (fields_in_of s).b) (number (the_integer_of x.bytes)) (number (the_integer_of (part s (fields_in_of s).b))))) a
    ∙ ap (λ (x : Field). told (maximum_told x.bytes (number (the_integer_of f.bytes)) (number (the_integer_of x.bytes)))) b

-- where the third is at fault
pub maximum-is : (s : Bytes) (p : MissionPlace) (n : ℕ) (f : Field) (fs : List Field) → Among n (8 ∷ 9 ∷ []) → field_in 0 s (fields_in_of s).a ≡ f → fields_at 0 s ≡ f ∷ fs → mdf_field_of mdf_table_of s (fields_in_of s) p n ≡ 2 → maximum_words s ≡ told (maximum_behind (f ∷ fs))
maximum-is s p n f fs a first e q =
    let behind : fs ≡ field_in 0 s (fields_in_of s).b ∷ field_in 0 s (fields_in_of s).c ∷ [] = tail-eq_of_cons-eq (sym e ∙ fields-listed 0 s ∙ ap (Forms.listed 0 s (fields_in_of s)) (three-fields s (fields_in_of s) p n a q)) in
    subst (λ (l : List Field). maximum_words s ≡ told (maximum_behind (f ∷ l))) (sym behind) (two-before s f (field_in 0 s (fields_in_of s).b) (field_in 0 s (fields_in_of s).c ∷ []) first refl)
