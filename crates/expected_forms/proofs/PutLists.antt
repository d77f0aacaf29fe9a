-- THE LAWS of a list that is put form by form: one more at its end, and the whole is what is told. Assumes nothing.
use mathlib.Core.Path.{◌≡◌, refl, sym, ap, ◌∙◌}
use mathlib.Core.List.{List, [], ◌∷◌, ◌++◌, map, map-append, append_assoc, append-nil}
use mathlib.Core.Bool.{Bool, true, false}
use Prim.Native.Nat.{ℕ, zero, suc, ◌+◌, ◌≤◌, ◌<◌}
use native.Mathlib.Nat.{add-zero}
use native.Mathlib.Numerals.{add-one}
use native.Mathlib.Omega.{arith}
use lib.ListN.{length}
use lib.Seq.{length-take-le, take_all}
use Rattle.terms.specs.Ascii.{Bytes, ascii}
use Rattle.terms.specs.Words.{pick}
use Rattle.number.specs.House.{house_integer}
use Rattle.edition.specs.declared.Edition.{Edition}
use Rattle.place.specs.declared.Place.{Place}
use Rattle.mission_place.specs.declared.MissionPlace.{MissionPlace}
use Rattle.output.specs.Pen.{Pen, Wrote}
use Rattle.output.proofs.Writing.{none, same, ◌then◌}
use Rattle.expected_law.specs.Expected.{Form, lines, fields}
use Rattle.expected_law.specs.Telling.{joined, form_words, here, told}
use Rattle.expected_words.specs.declared.Form as DF
use Rattle.expected_words.specs.Items.{law_item, law_form}
use Rattle.expected_forms.specs.Forms.{rndf_form_of, is_due_of, is_open, kinds_from, kinds_at, forms_of, forms_at, order_form_of, is_due_order_of, is_open_order_of, order_forms, order_forms_at}
use Rattle.expected_forms.specs.Listing.{leading_comma, also_words, some_then, list_end, field_count, Lists}

-- ## A list put in two runs
also-both : (some : Bool) (forms more : List Form) → also_words some (forms ++ more) ≡ also_words some forms ++ also_words (some_then some forms) more
unfolding also_words some_then
also-both some [] more = refl
also-both some (form ∷ forms) more =
    let then-more : also_words true (forms ++ more) ≡ also_words true forms ++ also_words true more = also-both true forms more ∙ ap (λ (s : Bool). also_words true forms ++ also_words s more) (stays forms) in
    ap (λ (x : Bytes). leading_comma some ++ (form_words form ++ x)) then-more
    ∙ ap (λ (x : Bytes). leading_comma some ++ x) (sym (append_assoc (form_words form) (also_words true forms) (also_words true more)))
    ∙ sym (append_assoc (leading_comma some) (form_words form ++ also_words true forms) (also_words true more))
  where
    stays : (l : List Form) → some_then true l ≡ true
    stays [] = refl
    stays (a ∷ l) = refl

some-both : (some : Bool) (forms more : List Form) → some_then some (forms ++ more) ≡ some_then (some_then some forms) more
unfolding some_then
some-both some [] more = refl
some-both some (form ∷ forms) [] = refl
some-both some (form ∷ forms) (a ∷ more) = refl

pub no-form : {p : Pen} {some : Bool} → Lists p some [] p some
unfolding also_words some_then
no-form = record { wrote = none; are = refl }

pub one_form : {p q s : Pen} {some : Bool} (form : Form) → Wrote p (leading_comma some) q → Wrote q (form_words form) s → Lists p some (form ∷ []) s true
unfolding also_words some_then
one_form {p} {q} {s} {some} form u v = record { wrote = same (ap (λ (x : Bytes). leading_comma some ++ x) (sym (append-nil (form_words form)))) (u then v); are = refl }

both : {p q s : Pen} {a b c : Bool} {forms more : List Form} → Lists p a forms q b → Lists q b more s c → Lists p a (forms ++ more) s c
both {p} {q} {s} {a} {b} {c} {forms} {more} u v =
    record {
      wrote = same (sym (also-both a forms more)) (u.wrote then (rw u.are at v.wrote));
      are = v.are ∙ ap (λ (x : Bool). some_then x more) u.are ∙ sym (some-both a forms more);
    }

same_forms : {p q : Pen} {a b : Bool} {forms others : List Form} → forms ≡ others → Lists p a forms q b → Lists p a others q b
same_forms e u = rw e at u

-- ## One kind more
one_if : (holds : ℕ → Bool) (k : ℕ) → List ℕ
one_if holds k = pick (holds k) (k ∷ []) []

kinds-more : (holds : ℕ → Bool) (k many : ℕ) → kinds_from holds k (suc many) ≡ kinds_from holds k many ++ one_if holds (k + many)
unfolding kinds_from one_if
kinds-more holds k zero = rw add-zero refl
kinds-more holds k (suc many) =
    let there : suc k + many ≡ k + suc many = omega arith in
    let e : kinds_from holds (suc k) (suc many) ≡ kinds_from holds (suc k) many ++ one_if holds (k + suc many) = rw there at (kinds-more holds (suc k) many) in
    go (holds k) (kinds_from holds (suc k) (suc many)) e
  where
    go : (b : Bool) (l : List ℕ) → l ≡ kinds_from holds (suc k) many ++ one_if holds (k + suc many) → pick b (k ∷ l) l ≡ pick b (k ∷ kinds_from holds (suc k) many) (kinds_from holds (suc k) many) ++ one_if holds (k + suc many)
    go true l e = ap (λ (x : List ℕ). k ∷ x) e
    go false l e = e

forms-more : (form : ℕ → Form) (holds : ℕ → Bool) (k : ℕ) → map form (kinds_from holds 0 k) ++ pick (holds k) (form k ∷ []) [] ≡ map form (kinds_from holds 0 (suc k))
unfolding one_if
forms-more form holds k =
    let here-is : 0 + k ≡ k = omega arith in
    let more : kinds_from holds 0 (suc k) ≡ kinds_from holds 0 k ++ one_if holds k = rw here-is at (kinds-more holds 0 k) in
    ap (λ (l : List Form). map form (kinds_from holds 0 k) ++ l) (go (holds k)) ∙ sym (map-append form (kinds_from holds 0 k) (one_if holds k)) ∙ ap (map form) (sym more)
  where
    go : (b : Bool) → pick b (form k ∷ []) [] ≡ map form (pick b (k ∷ []) [])
    go true = refl
    go false = refl

-- the forms of the kinds before this one were put, and its own where it may stand
pub next-kind :
    (form : ℕ → Form) (holds : ℕ → Bool) (k : ℕ) {p q s : Pen} {a b c may : Bool} {its : Form} →
    Lists p a (map form (kinds_from holds 0 k)) q b → may ≡ holds k → its ≡ form k → Lists q b (pick may (its ∷ []) []) s c → Lists p a (map form (kinds_from holds 0 (k + 1))) s c
next-kind form holds k u e f v = rw add-one (same_forms (forms-more form holds k) (both u (rw (e, f) at v)))

-- ## A place's forms: first the due one, then the open options
both-kinds : (form : ℕ → Form) (kinds more : List ℕ) {p q s : Pen} {a b c : Bool} → Lists p a (map form kinds) q b → Lists q b (map form more) s c → Lists p a (map form (kinds ++ more)) s c
both-kinds form kinds more u v = same_forms (sym (map-append form kinds more)) (both u v)

pub all_forms :
    (e : Edition) (table : List (List ℕ)) (place : Place) {p q s : Pen} {a b c : Bool} →
    Lists p a (forms_of e place (kinds_from (is_due_of table place) 0 30)) q b → Lists q b (forms_of e place (kinds_from (is_open table place) 0 30)) s c → Lists p a (forms_at e table place) s c
unfolding forms_at kinds_at
all_forms e table place u v = both-kinds (λ k. law_form (rndf_form_of e place k)) (kinds_from (is_due_of table place) 0 30) (kinds_from (is_open table place) 0 30) u v

pub all-orders :
    (table : List (List ℕ)) (place : MissionPlace) {p q s : Pen} {a b c : Bool} →
    Lists p a (order_forms (kinds_from (is_due_order_of table place) 0 13)) q b → Lists q b (order_forms (kinds_from (is_open_order_of table place) 0 13)) s c → Lists p a (order_forms_at table place) s c
unfolding order_forms_at
all-orders table place u v = both-kinds (λ k. law_form (order_form_of k)) (kinds_from (is_due_order_of table place) 0 13) (kinds_from (is_open_order_of table place) 0 13) u v

-- ## The whole
commas-also : (form : Form) (forms : List Form) → form_words form ++ also_words true forms ≡ joined (ascii ", ") (map form_words (form ∷ forms))
unfolding also_words joined leading_comma
commas-also form [] = append-nil (form_words form)
commas-also form (next ∷ forms) = ap (λ (x : Bytes). form_words form ++ (ascii ", " ++ x)) (commas-also next forms)

lines-told : (owed : ℕ) (forms : List Form) → here (also_words false forms ++ list_end (some_then false forms) owed) ≡ told (lines owed forms)
unfolding also_words some_then list_end leading_comma told
lines-told owed [] = refl
lines-told owed (form ∷ forms) = ap (λ (x : Bytes). here (x ++ list_end true owed)) (commas-also form forms)

pub fields_told : (form : Form) → here (form_words form ++ field_count (length form)) ≡ told (fields form)
unfolding field_count house_integer told
fields_told form = refl

-- what is put of a place: the words before the list, the list, and what stands behind it
pub whole : (owed : ℕ) {p q s t : Pen} {some : Bool} {forms : List Form} → Wrote p (ascii "may stand here: ") q → Lists q false forms s some → Wrote s (list_end some owed) t → Wrote p (told (lines owed forms)) t
whole owed {p} {q} {s} {t} {some} {forms} u v w = same (lines-told owed forms) (u then (v.wrote then (rw v.are at w)))

-- ## How many items a form has
pub few-items : (f : DF.Form) → f.count < 3 → f.count ≡ length (law_form f)
few-items f h =
    let l : f.count ≤ 3 = omega arith in
    sym (length-take-le f.count (law_item f.a ∷ law_item f.b ∷ law_item f.c ∷ []) l)

pub all-items : (f : DF.Form) → 3 ≤ f.count → 3 ≡ length (law_form f)
all-items f h = sym (ap length (take_all f.count (law_item f.a ∷ law_item f.b ∷ law_item f.c ∷ []) h))
