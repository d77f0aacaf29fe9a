-- WHAT IS TOLD OF THE FIELD AT FAULT of a line with 8 or 9 is what the law expects there. For every file. Assumes nothing.
use mathlib.Core.Path.{◌≡◌, refl, sym, ap, subst, ◌∙◌}
use mathlib.Core.List.{List, [], ◌∷◌, ◌++◌, map, append-nil, head-eq_of_cons-eq, tail-eq_of_cons-eq}
use mathlib.Core.Option.{Option, none, some}
use mathlib.Core.Bool.{Bool, true, false}
use mathlib.Core.Logic.{inl, inr}
use Prim.Native.Nat.{ℕ, suc, ◌<◌}
use native.Mathlib.Omega.{arith}
use lib.ListN.{length, length-append, length-map, take}
use lib.Ieee.Bits.{is_true}
use lib.Dec.{T}
use Rattle.terms.specs.Ascii.{Bytes}
use Rattle.terms.specs.Words.{Among}
use Rattle.line.specs.Text.{Ended}
use Rattle.line.specs.Content.{Field, Content}
use Rattle.line.specs.Faults as Form-faults
use Rattle.line.proofs.Ends.{ended-one}
use Rattle.line.proofs.Contents.{content-one}
use Rattle.grammar.specs.Editions.{Edition, law_of}
use Rattle.grammar.specs.Language.{Lang, S, say}
use Rattle.grammar.specs.Machine.{Machine, Place}
use Rattle.grammar.specs.Machine as Machine
use Rattle.grammar.specs.Stands.{stands}
use Rattle.text.specs.Said as Texts
use Rattle.text.specs.Judge.{Sort, Vals, Lexis, kind_at, args}
use Rattle.text.proofs.Telling.{Lawful}
use Rattle.law.specs.Network.{Line, word, SpellFields, Rules, reading, lenient}
use Rattle.law.specs.Network as Law
use Rattle.law.specs.Faults.{kind_of_field, FirstMisspelt, Opens, FollowsLeniently, MayStand, FieldFault, Fault}
use Rattle.law.specs.Faults as Law-faults
use Rattle.law_spelling.specs.LineOf.{law_line}
use Rattle.law_faults.proofs.Sorts.{law-said, law-front, made-line, law-line-is, of_kind_of, count-back}
use Rattle.law_faults.proofs.Needs.{Needs}
use Rattle.law_faults.proofs.Reached.{laws, Came}
use Rattle.law_faults.proofs.Opening.{opens-word, word_line}
use Rattle.law_faults.proofs.LineFaults.{may-back, one-kind}
use Rattle.law_columns.specs.Columns.{MayGoOn, AtFault}
use Rattle.law_columns.specs.Columns as Columns
use Rattle.law_columns.specs.Finding.{takes, wrong_at, behind_word, field_at}
use Rattle.law_columns.proofs.Wrong.{Spelled, Wrong, Completes, forbidden-wrong}
use Rattle.law_columns.proofs.Taking.{tested}
use Rattle.law_columns.proofs.Starting.{spelled-to, spelled_back}
use Rattle.law_columns.proofs.LineColumns.{Lows, found}
use Rattle.expected_law.specs.Expected.{Form, last_bytes, ListsField, field, Expected, placed, apart}
use Rattle.expected_exact.proofs.Exact.{FitPlace}
use Rattle.expected_exact.proofs.Shapes.{OnLine}
use Rattle.expected_exact.proofs.Behind as Behind
use Rattle.expected_fields.specs.AtFields.{form_of_kind, item_at_of, passes, values_before, told_field, permitted, field_told}
use Rattle.expected_fields.proofs.Instances.{Lasting, form-cut, fields-cut, as_many, first-allowed}
use Rattle.expected_fields.proofs.Passing.{passes-to, passes-back, FieldBehind, misspelt-led}
use Rattle.expected_fields.proofs.NextField.{begun, so-here, follows, passed-line, of-this, Opening, behind-first, at_first, lists-behind, lists-alone}

-- ## Fields behind a keyword, or without
abbrev led-by : Option Bytes → Field → List Field → List Field
led-by none f left = left
led-by (some w) f left = f ∷ left

-- up to a field there is at least the first
up-to-first : (f : Field) (fs left : List Field) (g : Field) (right : List Field) → f ∷ fs ≡ left ++ (g ∷ right) → (l : List Field) × (left ++ (g ∷ []) ≡ f ∷ l)
up-to-first f fs [] g right e = ([], ap (λ (x : Field). x ∷ []) (sym (head-eq_of_cons-eq e)))
up-to-first f fs (x ∷ left) g right e = (left ++ (g ∷ []), ap (λ (x : Field). x ∷ (left ++ (g ∷ []))) (sym (head-eq_of_cons-eq e)))

so-many : (e : Law.Edition) (fs : List Field) (l : Line) → SpellFields e fs l → length fs ≡ length l
so-many e [] [] h = refl
so-many e [] (s ∷ l) h = absurd h
so-many e (f ∷ fs) [] h = absurd h
so-many e (f ∷ fs) (s ∷ l) h = ap suc (so-many e fs l h.1)

before-less : (fs left : List Field) (g : Field) (right : List Field) (n : ℕ) → fs ≡ left ++ (g ∷ right) → length fs ≡ n → length left < n
before-less fs left g right n e m = omega (arith, ap length e, length-append left (g ∷ right), m)

first-fields : (fs left : List Field) (g : Field) (right : List Field) (i : ℕ) → fs ≡ left ++ (g ∷ right) → length left ≡ i → take i fs ≡ left
first-fields fs left g right i e m = ap (take i) e ∙ ap (λ (i : ℕ). take i (left ++ (g ∷ right))) (sym m) ∙ fields-cut left g right

values-behind : (o : Option Bytes) (j : ℕ) → values_before o (behind_word o j) ≡ j
values-behind none j = refl
values-behind (some w) j = refl

neither : {n : ℕ} {Y : Type 0} → Among n (8 ∷ 9 ∷ []) → (n ≡ 8 → ⊥) → (n ≡ 9 → ⊥) → Y
neither (inl e) a b = absurd (a e)
neither (inr (inl e)) a b = absurd (b e)
neither (inr (inr e)) a b = absurd e

-- the fault of a line with these fields is theirs
pub of_fields : (ed : Edition) {Net : Type 0} (Spells : Rules → Net → List Line → Type 0) (front : List Line) (line : Bytes) (n : ℕ) → Among n (8 ∷ 9 ∷ []) → Fault (reading (law_of ed)) Spells front line n → {content : Bytes} {f : Field} {fs : List Field} → Ended line content → Content 0 content (f ∷ fs) → FieldFault (reading (law_of ed)) Spells front f fs n
of_fields ed Spells front line n a (Law-faults.form e (Form-faults.long h)) ended c = neither a (λ e. omega arith) (λ e. omega arith)
of_fields ed Spells front line n a (Law-faults.form e (Form-faults.comment h b)) ended c = neither a (λ e. omega arith) (λ e. omega arith)
of_fields ed Spells front line n a (Law-faults.form e (Form-faults.byte h m b)) ended c = neither a (λ e. omega arith) (λ e. omega arith)
of_fields ed Spells front line n a (Law-faults.fields {f = f'} {fs = fs'} e h fault) {content} {f} {fs} ended c =
    let same : f' ∷ fs' ≡ f ∷ fs = content-one (subst (λ (c : Bytes). Content 0 c (f' ∷ fs')) (ended-one e ended) h) c in
    subst (λ (f : Field). FieldFault (reading (law_of ed)) Spells front f fs n) (head-eq_of_cons-eq same) (subst (λ (fs : List Field). FieldFault (reading (law_of ed)) Spells front f' fs n) (tail-eq_of_cons-eq same) fault)

-- N, A: the file where no option has to be given
module _ {ed : Edition} {L : Lang} (strict : Machine L) (X : Lexis L) (Line-of : (k : L.Kind) → L.Pay k → List Texts.Said) {Net : Type 0} (Said : Net → List (S L) → Type 0) (Spells : Rules → Net → List Line → Type 0) (first : strict.Base)
    (N : Needs ed (lenient (reading (law_of ed))) (Machine.lenient strict) X Line-of Said Spells first) (low : (k : L.Kind) → Vals (X.sorts k)) (M : Lows ed (Machine.lenient strict) X low)
    (options : strict.Base → List Form) (due : strict.Base → Form) where
  open L use {Kind, Pay}

  abbrev A : Machine L
  A = Machine.lenient strict

  abbrev W : Lawful A X Line-of
  W = N.file.lawful

  abbrev law : S L → Line
  law = law_line Line-of

  -- what is told of field i of a line is what is expected; it is a field of the form
  pub record ToldAt (front : List Line) (p : Place A) (f : Field) (fs : List Field) (n : ℕ) (k : Kind) (i : ℕ) : Type 0 where
    pub expected : Expected (reading (law_of ed)) Spells front f fs n (field_told A X low options due p k i f fs)
    pub inside-form : i < length (form_of_kind A options due p k)

  -- behind statements that lead to a place
  module _ (said : List (S L)) (p : Place A) (came : Came A X Line-of Said Spells first N said p) (fit : FitPlace ed L Line-of A options due p) (lasting : (k : Kind) → Lasting (form_of_kind A options due p k)) where
    abbrev front : List Line
    front = laws Line-of said

    -- a line f ∷ fs of a kind that may stand here, as `law (say L k v)` may
    module _ (f : Field) (fs : List Field) (k : Kind) (is : kind_at A X p f ≡ some k) (stood : stands A p k ≡ none) (v : Pay k) (stands-so : MayStand (reading (law_of ed)) Spells front f (law (say L k v))) where
      abbrev ss : List Sort
      ss = X.sorts k

      abbrev fields : List Field
      fields = args A X (X.keyword k) f fs

      abbrev form : Form
      form = form_of_kind A options due p k

      abbrev test : Vals ss → Bool
      test = takes A X low p k

      abbrev good : Pay k → Bool
      good = (so-here strict X Line-of Said Spells first N low M options due said p came fit k stood (lasting k)).test

      test-is : (u : Vals ss) → test u ≡ good (X.make k u)
      test-is u = (so-here strict X Line-of Said Spells first N low M options due said p came fit k stood (lasting k)).by (X.make k u)

      good-parts : (u : Pay k) → test (W.parts k u) ≡ good u
      good-parts u = test-is (W.parts k u) ∙ ap good (W.made k u)

      good_first : T (good v)
      good_first = passed-line strict X Line-of Said Spells first N low M options due said p came fit k stood (lasting k) v stands-so.1

      completes : Completes ss test (low k)
      completes =
          let t = tested A (λ k test. Completes (X.sorts k) (λ u. test (X.make k u)) (low k)) M.options M.owed p k stood in
          subst (λ (t : Vals ss → Bool). Completes ss t (low k)) (λ i u. sym (t.by (X.make k u)) i) t.known

      opened : (w : Bytes) → X.keyword k ≡ some w → f.bytes ≡ w
      opened w q = opens-word (subst (Opens f) (word_line A X Line-of Said Spells first N k v w q) stands-so.0)

      -- ## From values to the fields before one, and back
      began : (o : Option Bytes) → X.keyword k ≡ o → (u : Vals ss) (left : List Field) → Spelled ss left u → (a : Line) × (r : Line) × (law (say L k (X.make k u)) ≡ a ++ r) × SpellFields (law_of ed) (led-by o f left) a
      began none q u left h =
          let x = spelled-to ed ss (M.sorts k) left u h in
          (x.0, x.1, made-line A X Line-of W k u ∙ ap (λ (o : Option Bytes). law-front o ++ law-said ss u) q ∙ x.2, x.3)
      began (some w) q u left h =
          let x = spelled-to ed ss (M.sorts k) left u h in
          (word w ∷ x.0, x.1, made-line A X Line-of W k u ∙ ap (λ (o : Option Bytes). law-front o ++ law-said ss u) q ∙ ap (◌∷◌ (word w)) x.2, (opened w q, x.3))

      peeled : (o : Option Bytes) (u : Vals ss) (left : List Field) (a r : Line) → a ++ r ≡ law-front o ++ law-said ss u → SpellFields (law_of ed) (led-by o f left) a → Spelled ss left u
      peeled none u left a r z sp = spelled_back ed ss (M.sorts k) left u a r (sym z) sp
      peeled (some w) u left [] r z sp = absurd sp
      peeled (some w) u left (x ∷ a) r z sp = spelled_back ed ss (M.sorts k) left u a r (sym (tail-eq_of_cons-eq z)) sp.1

      values : (o : Option Bytes) → X.keyword k ≡ o → (left l : List Field) → led-by o f left ≡ f ∷ l → MayGoOn (reading (law_of ed)) Spells front (led-by o f left) → (u : Vals ss) × T (test u) × Spelled ss left u
      values o q left l e m =
          let x = begun ed f l (led-by o f left) e m.0 m.2 in
          let e' : m.0 ++ m.1 ≡ x.0 ∷ (x.1 ++ m.1) = ap (λ (a : Line). a ++ m.1) x.2 in
          let y = of-this strict X Line-of Said Spells first N low M options due said p came fit k stood (lasting k) f is x.0 (x.1 ++ m.1) x.3 (subst (FollowsLeniently (reading (law_of ed)) Spells front) e' m.3) in
          let u = W.parts k y.0 in
          let z : m.0 ++ m.1 ≡ law-front o ++ law-said ss u = e' ∙ y.2 ∙ law-line-is A X Line-of W k y.0 ∙ ap (λ (o : Option Bytes). law-front o ++ law-said ss u) q in
          (u, subst T (sym (good-parts y.0)) y.1, peeled o u left m.0 m.1 z m.2)

      -- ## A field, with j values before it
      module _ (g : Field) (j : ℕ) (h : FieldBehind fields j g) where
        abbrev leading : List Field
        leading = led-by (X.keyword k) f h.left

        abbrev place : ℕ
        place = behind_word (X.keyword k) j

        among : f ∷ fs ≡ leading ++ (g ∷ h.right)
        among = go (X.keyword k) h.is
          where
            go : (o : Option Bytes) → args A X o f fs ≡ h.left ++ (g ∷ h.right) → f ∷ fs ≡ led-by o f h.left ++ (g ∷ h.right)
            go none e = e
            go (some w) e = ap (◌∷◌ f) e

        many : length leading ≡ place
        many = go (X.keyword k)
          where
            go : (o : Option Bytes) → length (led-by o f h.left) ≡ behind_word o j
            go none = h.many
            go (some w) = ap suc h.many

        opening : Opening strict X Line-of Said Spells first N low M options due said p came fit k stood (lasting k) leading
        opening = go (X.keyword k) refl h.left h.is
          where
            go : (o : Option Bytes) → X.keyword k ≡ o → (left : List Field) → args A X o f fs ≡ left ++ (g ∷ h.right) → Opening strict X Line-of Said Spells first N low M options due said p came fit k stood (lasting k) (led-by o f left)
            go (some w) q left e = behind-first strict X Line-of Said Spells first N low M options due said p came fit k stood (lasting k) f left is
            go none q [] e = at_first strict X Line-of Said Spells first N low M options due said p came fit k stood (lasting k) q v
            go none q (x ∷ left) e = behind-first strict X Line-of Said Spells first N low M options due said p came fit k stood (lasting k) x left (subst (λ (x : Field). kind_at A X p x ≡ some k) (head-eq_of_cons-eq e) is)

        passing : permitted A X low p k place f fs ≡ passes ss test (low k) (length h.left) (h.left ++ (g ∷ h.right))
        passing = ap (λ (i : ℕ). passes ss test (low k) i fields) (values-behind (X.keyword k) j ∙ sym h.many) ∙ ap (passes ss test (low k) (length h.left)) h.is

        passing-so : (u : Vals ss) → T (test u) → Spelled ss h.left u → permitted A X low p k place f fs ≡ true
        passing-so u t sp = is_true (permitted A X low p k place f fs) (subst T (sym passing) (passes-back ss test (low k) completes u t h.left (g ∷ h.right) sp))

        module _ (full : length (f ∷ fs) ≡ length (law (say L k v))) where
          inside-form : place < length form
          inside-form =
              let o = (so-here strict X Line-of Said Spells first N low M options due said p came fit k stood (lasting k)).fits.says v good_first in
              let less = before-less (f ∷ fs) leading g h.right (length form) among (full ∙ sym (as_many ed (Law.word []) form (law (say L k v)) o)) in
              subst (λ (i : ℕ). i < length form) many less

          parts : (pre : Form) × (post : Form) × (form ≡ pre ++ (item_at_of place form ∷ post)) × (length pre ≡ place)
          parts = form-cut form place inside-form

          -- the fields before are those of values that pass
          listed-so : (u : Vals ss) → T (test u) → Spelled ss h.left u → ListsField (reading (law_of ed)) Spells front leading (item_at_of place form)
          listed-so u t sp =
              let c = parts in
              let b = began (X.keyword k) refl u h.left sp in
              let t' = subst T (test-is u) t in
              let o = (so-here strict X Line-of Said Spells first N low M options due said p came fit k stood (lasting k)).fits.says (X.make k u) t' in
              let o' : OnLine ed (Law.word []) (c.0 ++ (item_at_of place form ∷ c.1)) (b.0 ++ b.1) = subst (OnLine ed (Law.word []) (c.0 ++ (item_at_of place form ∷ c.1))) b.2 (subst (λ (form : Form). OnLine ed (Law.word []) form (law (say L k (X.make k u)))) c.2 o) in
              let a = first-allowed ed c.0 (item_at_of place form ∷ c.1) (Law.word []) [] (λ m e. Behind.clash e) leading (c.3 ∙ sym many) b.0 b.1 o' b.3 in
              lists-behind strict X Line-of Said Spells first N low M options due said p came fit k stood (lasting k) c.0 (item_at_of place form) c.1 c.2 leading a opening

          placed-so : (n : ℕ) → Among n (8 ∷ 9 ∷ []) → AtFault (reading (law_of ed)) Spells front f fs n g → (u : Vals ss) → T (test u) → Spelled ss h.left u → Expected (reading (law_of ed)) Spells front f fs n (told_field form true place (f ∷ fs))
          placed-so n a fault u t sp = subst (λ (l : List Field). Expected (reading (law_of ed)) Spells front f fs n (field (last_bytes l) (item_at_of place form))) (sym (first-fields (f ∷ fs) leading g h.right place among many)) (placed leading h.right g a fault among (listed-so u t sp))

          -- no line goes on with them where they do not pass
          not_on : permitted A X low p k place f fs ≡ false → MayGoOn (reading (law_of ed)) Spells front leading → ⊥
          unfolding passes
          not_on e m = go (X.keyword k) refl h.left h.is m (λ u t sp. subst T (sym passing ∙ e) (passes-back ss test (low k) completes u t h.left (g ∷ h.right) sp)) (λ z. subst T (sym passing ∙ e) z)
            where
              go : (o : Option Bytes) → X.keyword k ≡ o → (left : List Field) → args A X o f fs ≡ left ++ (g ∷ h.right) → MayGoOn (reading (law_of ed)) Spells front (led-by o f left) → ((u : Vals ss) → T (test u) → Spelled ss left u → ⊥) → (T (passes ss test (low k) (length left) (left ++ (g ∷ h.right))) → ⊥) → ⊥
              go (some w) q left e m never bare = let x = values (some w) q left left refl m in never x.0 x.1 x.2
              go none q [] e m never bare = bare tt
              go none q (y ∷ left) e m never bare = let x = values none q (y ∷ left) left (ap (λ (y : Field). y ∷ left) (sym (head-eq_of_cons-eq e))) m in never x.0 x.1 x.2

          apart-so : AtFault (reading (law_of ed)) Spells front f fs 8 g → permitted A X low p k place f fs ≡ false → Expected (reading (law_of ed)) Spells front f fs 8 (told_field form false place (f ∷ fs))
          apart-so fault e =
              let c = parts in
              apart leading h.right g (law (say L k v)) fault among (not_on e) stands-so
              (lists-alone strict X Line-of Said Spells first N low M options due said p came fit k stood (lasting k) c.0 (item_at_of place form) c.1 c.2 v (length leading) (c.3 ∙ sym many))

          told-so : AtFault (reading (law_of ed)) Spells front f fs 8 g → Expected (reading (law_of ed)) Spells front f fs 8 (told_field form (permitted A X low p k place f fs) place (f ∷ fs))
          told-so fault = go (permitted A X low p k place f fs) refl
            where
              go : (x : Bool) → permitted A X low p k place f fs ≡ x → Expected (reading (law_of ed)) Spells front f fs 8 (told_field form x place (f ∷ fs))
              go true q = let u = passes-to ss test (low k) (W.parts k v) (subst T (sym (good-parts v)) good_first) h.left (g ∷ h.right) (subst T (sym q ∙ passing) tt) in placed-so 8 (inl refl) fault u.0 u.1 u.2
              go false q = apart-so fault q

      -- ## 8
      misspelt-among : (g : Field) → FirstMisspelt (law_of ed) (f ∷ fs) (map kind_of_field (law (say L k v))) g → FieldBehind fields (wrong_at ss (λ u. true) (low k) fields) g
      misspelt-among g m = misspelt-led ed A X ss (M.sorts k) (low k) (W.parts k v) (X.keyword k) opened (subst (λ (l : Line). FirstMisspelt (law_of ed) (f ∷ fs) (map kind_of_field l) g) (law-line-is A X Line-of W k v) m)

      pub eight : (g : Field) → length (f ∷ fs) ≡ length (law (say L k v)) → FirstMisspelt (law_of ed) (f ∷ fs) (map kind_of_field (law (say L k v))) g → ToldAt front p f fs 8 k (field_at A X low p 8 f fs)
      unfolding field_told field_at
      eight g full m =
          let j = wrong_at ss (λ u. true) (low k) fields in
          let e = found strict X Line-of Said Spells first N low M said p came f fs k is stood 8 (count-back A X Line-of W k v f fs full) in
          let h = misspelt-among g m in
          subst (ToldAt front p f fs 8 k) (sym e) (record { expected = told-so g j h full (Columns.misspelt (law (say L k v)) stands-so m); inside-form = inside-form g j h full })

      -- ## 9
      wrong-so : (i : ℕ) (x : Wrong ss (λ u. T (test u)) fields i) → MayGoOn (reading (law_of ed)) Spells front (led-by (X.keyword k) f x.before ++ (x.f ∷ [])) → ⊥
      wrong-so i x m = go (X.keyword k) refl x.among m
        where
          go : (o : Option Bytes) → X.keyword k ≡ o → args A X o f fs ≡ x.before ++ (x.f ∷ x.behind) → MayGoOn (reading (law_of ed)) Spells front (led-by o f x.before ++ (x.f ∷ [])) → ⊥
          go (some w) q e m = let y = values (some w) q (x.before ++ (x.f ∷ [])) (x.before ++ (x.f ∷ [])) refl m in x.wrong y.0 y.1 y.2
          go none q e m =
              let l = up-to-first f fs x.before x.f x.behind e in
              let y = values none q (x.before ++ (x.f ∷ [])) l.0 l.1 m in
              x.wrong y.0 y.1 y.2

      all-spelled : (u : Pay k) → SpellFields (law_of ed) (f ∷ fs) (law (say L k u)) → Spelled ss fields (W.parts k u)
      all-spelled u sp = go (X.keyword k) (subst (SpellFields (law_of ed) (f ∷ fs)) (law-line-is A X Line-of W k u) sp)
        where
          go : (o : Option Bytes) → SpellFields (law_of ed) (f ∷ fs) (law-front o ++ law-said ss (W.parts k u)) → Spelled ss (args A X o f fs) (W.parts k u)
          go none sp = peeled none (W.parts k u) (f ∷ fs) (law-said ss (W.parts k u)) [] (append-nil (law-said ss (W.parts k u))) sp
          go (some w) sp = peeled (some w) (W.parts k u) fs (word w ∷ law-said ss (W.parts k u)) [] (append-nil (word w ∷ law-said ss (W.parts k u))) sp

      by-wrong : length (f ∷ fs) ≡ length (law (say L k v)) → (j : ℕ) → Wrong ss (λ u. T (test u)) fields j → ToldAt front p f fs 9 k (behind_word (X.keyword k) j)
      unfolding field_told
      by-wrong full j x =
          let h : FieldBehind fields j x.f = record { left = x.before; right = x.behind; is = x.among; many = x.at } in
          let fault : AtFault (reading (law_of ed)) Spells front f fs 9 x.f = Columns.forbidden {g = x.f} (leading x.f j h, x.behind, among x.f j h, (listed-so x.f j h full x.u x.good x.right).0, wrong-so j x) in
          let told : Expected (reading (law_of ed)) Spells front f fs 9 (told_field form true (behind_word (X.keyword k) j) (f ∷ fs)) = placed-so x.f j h full 9 (inr (inl refl)) fault x.u x.good x.right in record {
            expected = subst (λ (b : Bool). Expected (reading (law_of ed)) Spells front f fs 9 (told_field form b (behind_word (X.keyword k) j) (f ∷ fs))) (sym (passing-so x.f j h x.u x.good x.right)) told;
            inside-form = inside-form x.f j h full;
          }

      pub nine : (l : Line) → map kind_of_field l ≡ map kind_of_field (law (say L k v)) → SpellFields (law_of ed) (f ∷ fs) l → (FollowsLeniently (reading (law_of ed)) Spells front l → ⊥) → ToldAt front p f fs 9 k (field_at A X low p 9 f fs)
      unfolding field_told field_at
      nine l kinds sp not =
          let u = of_kind_of A X Line-of W k v l kinds in
          let sp' : SpellFields (law_of ed) (f ∷ fs) (law (say L k u.0)) = subst (SpellFields (law_of ed) (f ∷ fs)) u.1 sp in
          let full : length (f ∷ fs) ≡ length (law (say L k v)) = so-many (law_of ed) (f ∷ fs) l sp ∙ sym (length-map l kind_of_field) ∙ ap length kinds ∙ length-map (law (say L k v)) kind_of_field in
          let refused : T (test (W.parts k u.0)) → ⊥ = λ t. not (subst (FollowsLeniently (reading (law_of ed)) Spells front) (sym u.1) (follows strict X Line-of Said Spells first N low M options due said p came fit k stood (lasting k) u.0 (subst T (good-parts u.0) t))) in
          let x = forbidden-wrong ss test (W.parts k u.0) (low k) (W.parts k v) (subst T (sym (good-parts v)) good_first) completes refused fields (all-spelled u.0 sp') (count-back A X Line-of W k v f fs full) in
          let e = found strict X Line-of Said Spells first N low M said p came f fs k is stood 9 (count-back A X Line-of W k v f fs full) in
          subst (ToldAt front p f fs 9 k) (sym e) (by-wrong full (wrong_at ss test (low k) fields) x)

    pub expected-field : (f : Field) (fs : List Field) (n : ℕ) → Among n (8 ∷ 9 ∷ []) → FieldFault (reading (law_of ed)) Spells front f fs n → (k : Kind) → kind_at A X p f ≡ some k
        → ToldAt front p f fs n k (field_at A X low p n f fs)
    expected-field f fs n a (Law-faults.misplaced x y) k is = neither a (λ e. omega arith) (λ e. omega arith)
    expected-field f fs n a (Law-faults.given_again x y) k is = neither a (λ e. omega arith) (λ e. omega arith)
    expected-field f fs n a (Law-faults.miscounted line m c) k is = neither a (λ e. omega arith) (λ e. omega arith)
    expected-field f fs n a (Law-faults.unmarked l s b c) k is = neither a (λ e. omega arith) (λ e. omega arith)
    expected-field f fs n a (Law-faults.misspelt line g m c s) k is =
        let x = may-back strict X Line-of Said Spells first N said p came f line m in
        subst (λ (k : Kind). ToldAt front p f fs 8 k (field_at A X low p 8 f fs)) (one-kind x.made-out is)
        (eight f fs x.k x.made-out x.here x.v (subst (MayStand (reading (law_of ed)) Spells front f) x.is m) g (c ∙ ap length x.is) (subst (λ (l : Line). FirstMisspelt (law_of ed) (f ∷ fs) (map kind_of_field l) g) x.is s))
    expected-field f fs n a (Law-faults.forbidden line l m kinds sp not) k is =
        let x = may-back strict X Line-of Said Spells first N said p came f line m in
        subst (λ (k : Kind). ToldAt front p f fs 9 k (field_at A X low p 9 f fs)) (one-kind x.made-out is)
        (nine f fs x.k x.made-out x.here x.v (subst (MayStand (reading (law_of ed)) Spells front f) x.is m) l (kinds ∙ ap (map kind_of_field) x.is) sp not)

    -- such a line is of a kind that may stand
    pub fault-kind : (f : Field) (fs : List Field) (n : ℕ) → Among n (8 ∷ 9 ∷ []) → FieldFault (reading (law_of ed)) Spells front f fs n → (k : Kind) × (kind_at A X p f ≡ some k) × (stands A p k ≡ none)
    fault-kind f fs n a (Law-faults.misplaced x y) = neither a (λ e. omega arith) (λ e. omega arith)
    fault-kind f fs n a (Law-faults.given_again x y) = neither a (λ e. omega arith) (λ e. omega arith)
    fault-kind f fs n a (Law-faults.miscounted line m c) = neither a (λ e. omega arith) (λ e. omega arith)
    fault-kind f fs n a (Law-faults.unmarked l s b c) = neither a (λ e. omega arith) (λ e. omega arith)
    fault-kind f fs n a (Law-faults.misspelt line g m c s) = let x = may-back strict X Line-of Said Spells first N said p came f line m in (x.k, x.made-out, x.here)
    fault-kind f fs n a (Law-faults.forbidden line l m kinds sp not) = let x = may-back strict X Line-of Said Spells first N said p came f line m in (x.k, x.made-out, x.here)
