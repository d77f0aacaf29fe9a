-- What is listed at a place is exactly what may stand there, if the form of each option and of the due statement is exactly what its test lets through. For every file. Assumes nothing.
use mathlib.Core.Path.{◌≡◌, refl, sym, ap, subst, ◌∙◌}
use mathlib.Core.List.{List, [], ◌∷◌, ◌++◌}
use mathlib.Core.Option.{Option, none, some}
use mathlib.Core.Bool.{Bool, true, false, ◌&&◌}
use mathlib.Core.Logic.{inl, inr}
use Prim.Native.Nat.{ℕ}
use native.Mathlib.Omega.{arith}
use lib.Dec.{T}
use lib.Ieee.Fits.{and_l, and_r}
use lib.Ieee.Bits.{is_true}
use Rattle.terms.specs.Words.{Among}
use Rattle.line.specs.Content.{Field}
use Rattle.grammar.specs.Editions.{Edition, law_of}
use Rattle.grammar.specs.Language.{Lang, S, say, as_kind}
use Rattle.grammar.specs.Machine.{next, Opt, Verdict, other, bad, good, judge, onto, lacks, distinct, take, opt_at, Machine, over, inside, guard, Place, enter, hit, settle, step}
use Rattle.grammar.proofs.LanguageLaws.{as_same, as-inv}
use Rattle.grammar.proofs.MachineLaws.{none_of, refused, due-apart, differ, no-option}
use Rattle.text.specs.Said as Old
use Rattle.text.specs.Judge.{Lexis}
use Rattle.law.specs.Network.{Line, Rules, SpellFields}
use Rattle.law.specs.Network as Law
use Rattle.law.specs.Faults.{Begins, Opens}
use Rattle.law.specs.Faults as Faults
use Rattle.law_spelling.specs.LineOf.{law_line}
use Rattle.law_faults.proofs.Needs.{Needs}
use Rattle.law_faults.proofs.Opening.{opens-word}
use Rattle.law_faults.proofs.Reached.{laws, Came, line-to, line-back}
use Rattle.expected_law.specs.Expected.{Item, this, a_name, numbers, ceiling, degrees, one_of, Form, OpensForm, keyword, digit, AllowsFields, Iff}
use Rattle.expected_law.specs.Short.{Digit, AllowsSome, Taken}
use Rattle.expected_exact.proofs.Shapes.{Means, Heads, OnLine, Fits}
use Rattle.expected_exact.specs.Listed.{if_open, if_ready, open_options, listed}

not_good : {X : Type 0} {c : ℕ} {g : List Bool} → bad c ≡ good g → X
not_good e = absurd (let z : ◌≡◌ {A = ℕ} 0 1 = cc in omega arith)

no_other : {X : Type 0} {g : List Bool} → other ≡ good g → X
no_other e = absurd (let z : ◌≡◌ {A = ℕ} 0 1 = cc in omega arith)

-- a line that a field opens begins with a keyword or with numbers
abbrev Headed : Line → Type 0
Headed [] = ⊥
Headed (Law.word w ∷ l) = Unit {0}
Headed (Law.name v ∷ l) = ⊥
Headed (Law.numbers ns ∷ l) = Unit {0}
Headed (Law.coordinate z ∷ l) = ⊥
Headed (Law.boundary b ∷ l) = ⊥

headed : {f : Field} {line : Line} → Opens f line → Headed line
headed (Faults.keyword e) = tt
headed (Faults.digit e d) = tt

digit-of : {f : Field} {ns : List ℕ} {l : Line} → Opens f (Law.numbers ns ∷ l) → Digit f
digit-of (Faults.digit e d) = Faults.digit e d

-- a field that opens a line opens the form that begins as the line does
pub opened : (f : Field) (form : Form) (line : Line) → Opens f line → Heads form line → OpensForm f form
opened f [] [] o h = absurd (headed o)
opened f [] (s ∷ l) o h = absurd h
opened f (i ∷ is) [] o h = absurd h
opened f (i ∷ is) (s ∷ l) o h = go i h
  where
    said_as : (t : Law.Said) → s ≡ t → Opens f (t ∷ l)
    said_as t e = subst (λ (s : Law.Said). Opens f (s ∷ l)) e o

    go : (i : Item) → Means i s → OpensForm f (i ∷ is)
    go (this w) m = keyword (opens-word (said_as (Law.word w) m))
    go a_name m = absurd (headed (said_as (Law.name m.0) m.1))
    go (numbers w rs) m = digit (digit-of (said_as (Law.numbers m.0) m.1))
    go ceiling m = absurd m
    go (degrees d) m = absurd (headed (said_as (Law.coordinate m.0) m.1))
    go (one_of bs) m = absurd (headed (said_as (Law.boundary m.0) m.1))

module _ (ed : Edition) (L : Lang) (Line-of : (k : L.Kind) → L.Pay k → List Old.Said) where
  open L use {Kind, Pay, disc}

  abbrev law : S L → Line
  law = law_line Line-of

  abbrev pub law-of-kind : (k : Kind) → Pay k → Line
  law-of-kind k v = law (say L k v)

  abbrev pub FitRow : List (Opt Kind Pay) → List Form → Type 0
  FitRow [] forms = Unit {0}
  FitRow (o ∷ row) [] = ⊥
  FitRow (o ∷ row) (form ∷ forms) = Fits ed (law-of-kind o.on) o.test form × FitRow row forms

  -- ## Options
  -- a statement that the row takes
  pub record ByRow (row : List (Opt Kind Pay)) (g : List Bool) (fields : List Field) : Type 0 where
    pub s : S L
    pub flags : List Bool
    pub spelled : SpellFields (law_of ed) fields (law s)
    pub among : lacks L s.kind row ≡ false
    pub taken : opt_at L row g s ≡ good flags

  lacks-more : (o : Opt Kind Pay) (row : List (Opt Kind Pay)) (k : Kind) → lacks L k row ≡ false → lacks L k (o ∷ row) ≡ false
  lacks-more o row k h = go (disc k o.on)
    where
      go : (d : Dec (k ≡ o.on)) → elim d as (λ x. Bool) [ yes e ↦ false | no n ↦ lacks L k row ] ≡ false
      go (yes e) = refl
      go (no n) = h

  lacks-not : (o : Opt Kind Pay) (row : List (Opt Kind Pay)) → lacks L o.on (o ∷ row) ≡ false
  lacks-not o row = go (disc o.on o.on)
    where
      go : (d : Dec (o.on ≡ o.on)) → elim d as (λ x. Bool) [ yes e ↦ false | no n ↦ lacks L o.on row ] ≡ false
      go (yes e) = refl
      go (no n) = absurd (n refl)

  judged : (a t : Bool) (g : List Bool) → a ≡ false → T t → judge a t g ≡ good g
  judged true t g e h = absurd (subst T e tt)
  judged false true g e h = refl
  judged false false g e h = absurd h

  row-each : (row : List (Opt Kind Pay)) (g : List Bool) (forms : List Form) → T (distinct L row) → FitRow row forms → (fields : List Field) (form : Form) → Among form (open_options L row g forms) → AllowsFields [] form fields → ByRow row g fields
  row-each [] g forms d h fields form m a = absurd m
  row-each (o ∷ row) [] forms d h fields form m a = absurd m
  row-each (o ∷ row) (f ∷ g) [] d h fields form m a = absurd h
  row-each (o ∷ row) (f ∷ g) (own ∷ forms) d h fields form m a = go (o.once && f) refl m (λ m. row-each row g forms (and_r (lacks L o.on row) (distinct L row) d) h.1 fields form m a)
    where
      later : ByRow row g fields → ByRow (o ∷ row) (f ∷ g) fields
      later x = record {
        s = x.s;
        flags = f ∷ x.flags;
        spelled = x.spelled;
        among = lacks-more o row x.s.kind x.among;
        taken = ap (λ (y : Option (Pay o.on)). take L o f g y (opt_at L row g x.s)) (none_of L o.on x.s (λ e. subst T x.among (subst (λ (k : Kind). T (lacks L k row)) (sym e) (and_l (lacks L o.on row) (distinct L row) d)))) ∙ ap (onto f) x.taken;
      }

      here : (o.once && f) ≡ false → AllowsFields [] own fields → ByRow (o ∷ row) (f ∷ g) fields
      here q a =
          let x = h.0.back fields a in
          record {
            s = say L o.on x.0;
            flags = o.once ∷ g;
            spelled = x.2;
            among = lacks-not o row;
            taken = ap (λ (y : Option (Pay o.on)). take L o f g y (opt_at L row g (say L o.on x.0))) (as_same L o.on x.0) ∙ judged (o.once && f) (o.test x.0) (o.once ∷ g) q x.1;
          }

      go : (b : Bool) → (o.once && f) ≡ b → Among form (if_open b own (open_options L row g forms)) → (Among form (open_options L row g forms) → ByRow row g fields) → ByRow (o ∷ row) (f ∷ g) fields
      go true q m ih = later (ih m)
      go false q (inl e) ih = here q (subst (λ (form : Form). AllowsFields [] form fields) e a)
      go false q (inr m) ih = later (ih m)

  -- what holds of a form because a statement is one of those that it fits
  abbrev Found : (Form → Type 0) → List Form → Type 0
  Found Q forms = (form : Form) × Among form forms × Q form

  abbrev Used : (Form → Type 0) → S L → Type 0
  Used Q s = (k : Kind) (test : Pay k → Bool) (form : Form) → Fits ed (law-of-kind k) test form → (v : Pay k) → s ≡ say L k v → T (test v) → Q form

  row-all : (Q : Form → Type 0) (row : List (Opt Kind Pay)) (g : List Bool) (forms : List Form) → FitRow row forms → (s : S L) → Used Q s → (flags : List Bool) → opt_at L row g s ≡ good flags → Found Q (open_options L row g forms)
  row-all Q [] g forms h s told flags e = no_other e
  row-all Q (o ∷ row) [] forms h s told flags e = no_other e
  row-all Q (o ∷ row) (f ∷ g) [] h s told flags e = absurd h
  row-all Q (o ∷ row) (f ∷ g) (own ∷ forms) h s told flags e = go (as_kind L o.on s) refl e (λ flags e. row-all Q row g forms h.1 s told flags e)
    where
      later : (b : Bool) → Found Q (open_options L row g forms) → Found Q (if_open b own (open_options L row g forms))
      later true x = x
      later false x = (x.0, inr x.1, x.2)

      here : (b t : Bool) (v : Pay o.on) → s ≡ say L o.on v → o.test v ≡ t → judge b t (o.once ∷ g) ≡ good flags → Found Q (if_open b own (open_options L row g forms))
      here true t v q i e = not_good e
      here false true v q i e = (own, inl refl, told o.on o.test own h.0 v q (subst T (sym i) tt))
      here false false v q i e = not_good e

      onward : (x : Verdict) → opt_at L row g s ≡ x → onto f x ≡ good flags → ((flags : List Bool) → opt_at L row g s ≡ good flags → Found Q (open_options L row g forms)) → Found Q (open_options L row g forms)
      onward other q e ih = no_other e
      onward (bad c) q e ih = not_good e
      onward (good g') q e ih = ih g' q

      go : (x : Option (Pay o.on)) → as_kind L o.on s ≡ x → take L o f g x (opt_at L row g s) ≡ good flags → ((flags : List Bool) → opt_at L row g s ≡ good flags → Found Q (open_options L row g forms)) → Found Q (if_open (o.once && f) own (open_options L row g forms))
      go (some v) q e ih = here (o.once && f) (o.test v) v (as-inv L o.on s v q) refl e
      go none q e ih = later (o.once && f) (onward (opt_at L row g s) refl e ih)

  -- ## Places
  module _ (A : Machine L) (options : A.Base → List Form) (due : A.Base → Form) where
    open A use {Base, opts, ready}

    -- every form of a base is exactly what its test lets through
    pub record FitBase (b : Base) : Type 0 where
      pub row : FitRow (opts b) (options b)
      pub owed : Fits ed (law-of-kind (A.due b).on) (A.due b).test (due b)

    abbrev pub FitPlace : Place A → Type 0
    FitPlace over = Unit {0}
    FitPlace (inside b g) = FitBase b

    -- every instance of a listed form is taken ..
    pub place-each : (p : Place A) → FitPlace p → (fields : List Field) → AllowsSome (listed A options due p) fields → (s : S L) × (q : Place A) × SpellFields (law_of ed) fields (law s) × (step A p s ≡ next q)
    unfolding listed step guard
    place-each over h fields x = absurd x.1
    place-each (inside b g) h fields (form, m, a) = go (ready b g) refl m
      where
        by_row : ByRow (opts b) g fields → (s : S L) × (q : Place A) × SpellFields (law_of ed) fields (law s) × (step A (inside b g) s ≡ next q)
        by_row x = (x.s, inside b x.flags, x.spelled, ap (λ (y : Verdict). settle A b g y x.s) x.taken)

        by-due : ready b g ≡ true → AllowsFields [] (due b) fields → (s : S L) × (q : Place A) × SpellFields (law_of ed) fields (law s) × (step A (inside b g) s ≡ next q)
        by-due r a =
            let x = h.owed.back fields a in
            let v = x.0 in
            let t : (A.due b).test v ≡ true = is_true ((A.due b).test v) x.1 in
            (say L (A.due b).on v, enter A ((A.due b).then v), x.2, rw (no-option A (opts b) g (A.due b).on v (due-apart A b), as_same L (A.due b).on v, t, r) refl)

        go : (y : Bool) → ready b g ≡ y → Among form (if_ready y (due b) (open_options L (opts b) g (options b))) → (s : S L) × (q : Place A) × SpellFields (law_of ed) fields (law s) × (step A (inside b g) s ≡ next q)
        go true r (inl e) = by-due r (subst (λ (form : Form). AllowsFields [] form fields) e a)
        go true r (inr m) = by_row (row-each (opts b) g (options b) (differ A b) h.row fields form m a)
        go false r m = by_row (row-each (opts b) g (options b) (differ A b) h.row fields form m a)

    -- .. and what is taken is fitted by a listed form
    place_found : (Q : Form → Type 0) (p : Place A) → FitPlace p → (s : S L) → Used Q s → (q : Place A) → step A p s ≡ next q → Found Q (listed A options due p)
    unfolding listed step guard
    place_found Q over h s told q e = refused e
    place_found Q (inside b g) h s told q e = go (opt_at L (opts b) g s) refl e
      where
        onto-ready : (y : Bool) → Found Q (open_options L (opts b) g (options b)) → Found Q (if_ready y (due b) (open_options L (opts b) g (options b)))
        onto-ready true x = (x.0, inr x.1, x.2)
        onto-ready false x = x

        guarded : (t y : Bool) (v : L.Pay (A.due b).on) → s ≡ say L (A.due b).on v → (A.due b).test v ≡ t → guard t 9 (guard y 25 (next (enter A ((A.due b).then v)))) ≡ next q → Found Q (if_ready y (due b) (open_options L (opts b) g (options b)))
        guarded true true v i t e = (due b, inl refl, told (A.due b).on (A.due b).test (due b) h.owed v i (subst T (sym t) tt))
        guarded true false v i t e = refused e
        guarded false y v i t e = refused e

        hits : (o : Option (L.Pay (A.due b).on)) → as_kind L (A.due b).on s ≡ o → hit A b g o ≡ next q → Found Q (if_ready (ready b g) (due b) (open_options L (opts b) g (options b)))
        hits (some v) i e = guarded ((A.due b).test v) (ready b g) v (as-inv L (A.due b).on s v i) refl e
        hits none i e = refused e

        go : (x : Verdict) → opt_at L (opts b) g s ≡ x → settle A b g x s ≡ next q → Found Q (if_ready (ready b g) (due b) (open_options L (opts b) g (options b)))
        go other i e = hits (as_kind L (A.due b).on s) refl e
        go (bad c) i e = refused e
        go (good g') i e = onto-ready (ready b g) (row-all Q (opts b) g (options b) h.row s told g' i)

    pub place-all : (p : Place A) → FitPlace p → (s : S L) (q : Place A) → step A p s ≡ next q → (fields : List Field) → SpellFields (law_of ed) fields (law s) → AllowsSome (listed A options due p) fields
    place-all p h s q e fields sp = place_found (λ form. AllowsFields [] form fields) p h s (λ k test form fit v i t. fit.to v t fields (subst (λ (s : S L). SpellFields (law_of ed) fields (law s)) i sp)) q e

    pub place-heads : (p : Place A) → FitPlace p → (s : S L) (q : Place A) → step A p s ≡ next q → (form : Form) × Among form (listed A options due p) × Heads form (law s)
    place-heads p h s q e = place_found (λ form. Heads form (law s)) p h s (λ k test form fit v i t. subst (λ (s : S L). Heads form (law s)) (sym i) (fit.heads v t)) q e

    pub place-says : (p : Place A) → FitPlace p → (s : S L) (q : Place A) → step A p s ≡ next q → (form : Form) × Among form (listed A options due p) × (Heads form (law s) × OnLine ed (Law.word []) form (law s))
    place-says p h s q e = place_found (λ form. Heads form (law s) × OnLine ed (Law.word []) form (law s)) p h s (λ k test form fit v i t. subst (λ (s : S L). Heads form (law s) × OnLine ed (Law.word []) form (law s)) (sym i) (fit.heads v t, fit.says v t)) q e

    -- ## Behind lines that lead to a place
    module _ {rules : Rules} (X : Lexis L) {Net : Type 0} (Said : Net → List (S L) → Type 0) (Spells : Rules → Net → List Line → Type 0) (first : Base) (N : Needs ed rules A X Line-of Said Spells first) (same : rules.edition ≡ law_of ed) where
      abbrev pub Exact : (said : List (S L)) (p : Place A) → Type 0
      Exact said p = (fields : List Field) → Iff (AllowsSome (listed A options due p) fields) (Taken rules Spells (laws Line-of said) fields)

      pub listed_exact : (said : List (S L)) (p : Place A) → Came A X Line-of Said Spells first N said p → FitPlace p → Exact said p
      listed_exact said p c h fields = (
        λ x.
            let y = place-each p h fields x in
            (law y.0, subst (λ (e : Law.Edition). SpellFields e fields (law y.0)) (sym same) y.2, line-to A X Line-of Said Spells first N said p y.1 y.0 c y.3),
        λ x.
            let y = line-back A X Line-of Said Spells first N said p x.0 c x.2 in
            place-all p h y.0 y.1 y.3 fields (subst (λ (e : Law.Edition). SpellFields e fields (law y.0)) same (subst (SpellFields rules.edition fields) y.2 x.1)),
      )

      -- a line that may stand is opened by the field that opens a listed form
      pub listed-opened : (said : List (S L)) (p : Place A) → Came A X Line-of Said Spells first N said p → FitPlace p → (f : Field) (line : Line) → Opens f line → Begins rules Spells (laws Line-of said ++ (line ∷ [])) → (form : Form) × Among form (listed A options due p) × OpensForm f form
      listed-opened said p c h f line o b =
          let y = line-back A X Line-of Said Spells first N said p line c b in
          let x = place-heads p h y.0 y.1 y.3 in
          (x.0, x.1, opened f x.0 line o (subst (Heads x.0) (sym y.2) x.2))

      -- a line that may stand is what a listed form says
      pub listed-says : (said : List (S L)) (p : Place A) → Came A X Line-of Said Spells first N said p → FitPlace p → (line : Line) → Begins rules Spells (laws Line-of said ++ (line ∷ [])) → (form : Form) × Among form (listed A options due p) × (Heads form line × OnLine ed (Law.word []) form line)
      listed-says said p c h line b =
          let y = line-back A X Line-of Said Spells first N said p line c b in
          let x = place-says p h y.0 y.1 y.3 in
          (x.0, x.1, subst (λ (l : Line). Heads x.0 l × OnLine ed (Law.word []) x.0 l) (sym y.2) x.2)
