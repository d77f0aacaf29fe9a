-- From values to fields: where values are the first wrong ones, the field is the first wrong field of the line; and where the first starts that is not of its kind. For every file. Assumes nothing.
use mathlib.Core.Path.{◌≡◌, refl, sym, ap, subst, ◌∙◌}
use mathlib.Core.List.{List, [], ◌∷◌, ◌++◌, map, head-eq_of_cons-eq, tail-eq_of_cons-eq}
use mathlib.Core.Option.{Option, none, some}
use mathlib.Core.Bool.{true}
use Prim.Native.Nat.{ℕ, suc}
use Rattle.terms.specs.Ascii.{Bytes}
use Rattle.terms.specs.Words.{Each}
use Rattle.line.specs.Content.{Field}
use Rattle.grammar.specs.Editions.{Edition, law_of}
use Rattle.grammar.specs.Language.{Lang}
use Rattle.grammar.specs.Machine.{Machine}
use Rattle.text.specs.Said as Old
use Rattle.text.specs.Judge.{Sort, a_name, an_integer, a_pair, a_triple, a_coordinate, a_boundary, Val, read, Vals, Lexis, args}
use Rattle.text.proofs.FieldReading.{says, said, read_right, read_only}
use Rattle.text.proofs.Telling.{in-front}
use Rattle.law.specs.Network.{Said, Line, word, SpellsField, SpellFields}
use Rattle.law.specs.Network as Law
use Rattle.law.specs.Faults.{kind_of_field, FirstMisspelt, here, further}
use Rattle.law_spelling.specs.LineOf.{said_of, Of}
use Rattle.law_spelling.proofs.Fields.{field-to, field_back}
use Rattle.law_faults.proofs.Sorts.{law-said, law-front}
use Rattle.law_faults.proofs.Reached.{cons-nil}
use Rattle.law_faults.proofs.Misspelt.{kind-read, read-kind}
use Rattle.law_columns.specs.Finding.{on_read, wrong_at, start_of, behind_word}
use Rattle.law_columns.proofs.Wrong.{Spelled, Wrong}

-- Is: which lines are meant. One of them begins with what these fields say
abbrev pub Start : Law.Edition → (Is : Line → Type 0) → List Field → Type 0
Start edition Is fields = (said : Line) × (rest : Line) × SpellFields edition fields said × Is (said ++ rest)

-- the first field with which none of the lines that are meant is left
pub record FirstWrongField (edition : Law.Edition) (Is : Line → Type 0) (fields : List Field) (f : Field) : Type 0 where
  pub before : List Field
  pub behind : List Field
  pub among : fields ≡ before ++ (f ∷ behind)
  pub right : Start edition Is before
  pub wrong : Start edition Is (before ++ (f ∷ [])) → ⊥

-- a sort of boundaries is of this edition
abbrev pub SortOf : Edition → Sort → Type 0
SortOf e a_name = Unit {0}
SortOf e an_integer = Unit {0}
SortOf e a_pair = Unit {0}
SortOf e a_triple = Unit {0}
SortOf e a_coordinate = Unit {0}
SortOf e (a_boundary d) = d ≡ e

says_of : (e : Edition) (s : Sort) → SortOf e s → (v : Val s) → Of e (says s v)
says_of e a_name h v = tt
says_of e an_integer h v = tt
says_of e a_pair h v = tt
says_of e a_triple h v = tt
says_of e a_coordinate h v = tt
says_of e (a_boundary d) h v = h

-- ## 8
-- where values are looked for from the left, the first field that is not of its kind is found ..
misspelt-at : (ed : Edition) (ss : List Sort) → Each (SortOf ed) ss → (low w : Vals ss) {fs : List Field} {g : Field} → FirstMisspelt (law_of ed) fs (map kind_of_field (law-said ss w)) g → start_of (wrong_at ss (λ u. true) low fs) fs ≡ g.start
unfolding wrong_at
misspelt-at ed (s ∷ []) o low w (here n) = refl
misspelt-at ed (s ∷ z ∷ ss) o low w (here {g = f} {fs = fs} n) = go (read s f) refl
  where
    go : (x : Option (Val s)) → read s f ≡ x → start_of (on_read x (λ v. suc (wrong_at (z ∷ ss) (λ u. true) low.1 fs))) (f ∷ fs) ≡ f.start
    go none q = refl
    go (some u) q = let y = read-kind ed s w.0 (says_of ed s o.0 w.0) f u q in absurd (n (said_of (says s u)) y.0 y.1)
misspelt-at ed (s ∷ z ∷ ss) o low w (further {f = f} x k h m) =
    let y = kind-read ed s w.0 (says_of ed s o.0 w.0) f x k h in
    rw y.1 (misspelt-at ed (z ∷ ss) o.1 low.1 w.1 m)
misspelt-at ed [] o low w {fs = fs} {g = g} x'' = elim x'' [ ]
misspelt-at ed (s ∷ []) o low w {g = g} (further {f = f} {fs = fs} x k h m) = elim m [ ]

-- .. also behind the keyword, where there is one
pub misspelt-start : (ed : Edition) {L : Lang} (A : Machine L) (X : Lexis L) (ss : List Sort) → Each (SortOf ed) ss → (low w : Vals ss) (o : Option Bytes) {f : Field} {fs : List Field} {g : Field} → ((b : Bytes) → o ≡ some b → f.bytes ≡ b)
    → FirstMisspelt (law_of ed) (f ∷ fs) (map kind_of_field (law-front o ++ law-said ss w)) g → start_of (behind_word o (wrong_at ss (λ u. true) low (args A X o f fs))) (f ∷ fs) ≡ g.start
misspelt-start ed A X ss of low w none h m = misspelt-at ed ss of low w m
misspelt-start ed A X ss of low w (some b) h (here n) = absurd (n (word b) refl (h b refl))
misspelt-start ed A X ss of low w (some b) h (further x k j m) = misspelt-at ed ss of low w m

-- ## 9
-- fields that spell the first values spell the first of what is said ..
pub spelled-to : (ed : Edition) (ss : List Sort) → Each (SortOf ed) ss → (fs : List Field) (u : Vals ss) → Spelled ss fs u → (a : Line) × (r : Line) × (law-said ss u ≡ a ++ r) × SpellFields (law_of ed) fs a
spelled-to ed ss o [] u h = ([], law-said ss u, refl, tt)
spelled-to ed [] o (f ∷ fs) u h = absurd h
spelled-to ed (s ∷ ss) o (f ∷ fs) u h =
    let x = spelled-to ed ss o.1 fs u.1 h.1 in
    let v = said_of (says s u.0) in
    (v ∷ x.0, x.1, ap (◌∷◌ v) x.2, (field-to ed f (says s u.0) (says_of ed s o.0 u.0) (read_right s f u.0 h.0), x.3))

-- .. and back
pub spelled_back : (ed : Edition) (ss : List Sort) → Each (SortOf ed) ss → (fs : List Field) (u : Vals ss) (a r : Line) → law-said ss u ≡ a ++ r → SpellFields (law_of ed) fs a → Spelled ss fs u
spelled_back ed ss o [] u a r e h = tt
spelled_back ed ss o (f ∷ fs) u [] r e h = absurd h
spelled_back ed [] o (f ∷ fs) u (x ∷ a) r e h = cons-nil e
spelled_back ed (s ∷ ss) o (f ∷ fs) u (x ∷ a) r e h =
    let q : said_of (says s u.0) ≡ x = head-eq_of_cons-eq e in
    (read_only s f u.0 (field_back ed f (says s u.0) (says_of ed s o.0 u.0) (subst (SpellsField (law_of ed) f) (sym q) h.0)), spelled_back ed ss o.1 fs u.1 a r (tail-eq_of_cons-eq e) h.1)

-- up to a field there is at least the first
up-to-first : (f : Field) (fs before : List Field) (g : Field) (behind : List Field) → f ∷ fs ≡ before ++ (g ∷ behind) → (l : List Field) × (before ++ (g ∷ []) ≡ f ∷ l)
up-to-first f fs [] g behind e = ([], ap (λ (x : Field). x ∷ []) (sym (head-eq_of_cons-eq e)))
up-to-first f fs (x ∷ before) g behind e = (before ++ (g ∷ []), ap (λ (x : Field). x ∷ (before ++ (g ∷ []))) (sym (head-eq_of_cons-eq e)))

-- what spells fields that begin with f begins with what f spells
begun : (ed : Edition) (f : Field) (fs : List Field) (l : List Field) → l ≡ f ∷ fs → (a : Line) → SpellFields (law_of ed) l a → (x : Said) × (b : Line) × (a ≡ x ∷ b) × SpellsField (law_of ed) f x
begun ed f fs [] e a h = cons-nil e
begun ed f fs (g ∷ l) e [] h = absurd h
begun ed f fs (g ∷ l) e (x ∷ a) h = (x, a, refl, subst (λ (g : Field). SpellsField (law_of ed) g x) (head-eq_of_cons-eq e) h.0)

-- a line f ∷ fs of the keyword o, where there is one, with values of the sorts ss: what is so are the lines of good values
module _ (ed : Edition) {L : Lang} (A : Machine L) (X : Lexis L) (ss : List Sort) (of : Each (SortOf ed) ss) (Good : Vals ss → Type 0) (Is : Line → Type 0) (f : Field) (fs : List Field) where
  pub record Lines (o : Option Bytes) : Type 0 where
    pub opened : (b : Bytes) → o ≡ some b → f.bytes ≡ b
    pub to : (u : Vals ss) → Good u → Is (law-front o ++ law-said ss u)
    pub back : (x : Said) (l : Line) → SpellsField (law_of ed) f x → Is (x ∷ l) → (u : Vals ss) × Good u × (x ∷ l ≡ law-front o ++ law-said ss u)

  pub first-wrong : (o : Option Bytes) → Lines o → (i : ℕ) (w : Wrong ss Good (args A X o f fs) i) → FirstWrongField (law_of ed) Is (f ∷ fs) w.f
  first-wrong (some b) h i w = record {
    before = f ∷ w.before;
    behind = w.behind;
    among = ap (◌∷◌ f) w.among;
    right =
        let x = spelled-to ed ss of w.before w.u w.right in
        (word b ∷ x.0, x.1, (h.opened b refl, x.3), subst (λ (l : Line). Is (word b ∷ l)) x.2 (h.to w.u w.good));
    wrong = λ s. go s.0 s.1 s.2 s.3;
  }
    where
      go : (said rest : Line) → SpellFields (law_of ed) (f ∷ (w.before ++ (w.f ∷ []))) said → Is (said ++ rest) → ⊥
      go [] rest s is = s
      go (x ∷ said) rest s is =
          let y = h.back x (said ++ rest) s.0 is in
          w.wrong y.0 y.1 (spelled_back ed ss of (w.before ++ (w.f ∷ [])) y.0 said rest (sym (tail-eq_of_cons-eq y.2)) s.1)
  first-wrong none h i w = record {
    before = w.before;
    behind = w.behind;
    among = w.among;
    right =
        let x = spelled-to ed ss of w.before w.u w.right in
        (x.0, x.1, x.3, subst Is x.2 (h.to w.u w.good));
    wrong = λ s. go s.0 s.1 s.2 s.3;
  }
    where
      go : (said rest : Line) → SpellFields (law_of ed) (w.before ++ (w.f ∷ [])) said → Is (said ++ rest) → ⊥
      go said rest s is =
          let l = up-to-first f fs w.before w.f w.behind w.among in
          let x = begun ed f l.0 (w.before ++ (w.f ∷ [])) l.1 said s in
          let e : said ++ rest ≡ x.0 ∷ (x.1 ++ rest) = ap (λ (a : Line). a ++ rest) x.2 in
          let y = h.back x.0 (x.1 ++ rest) x.3 (subst Is e is) in
          w.wrong y.0 y.1 (spelled_back ed ss of (w.before ++ (w.f ∷ [])) y.0 said rest (sym y.2 ∙ sym e) s)
