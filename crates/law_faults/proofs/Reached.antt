-- Lines begin a well-formed file if and only if they say statements that the places take. For every file. Assumes nothing.
use mathlib.Core.Path.{◌≡◌, refl, sym, ap, subst, ◌∙◌}
use mathlib.Core.List.{List, [], ◌∷◌, ◌++◌, map, map-append, head-eq_of_cons-eq, tail-eq_of_cons-eq}
use mathlib.Core.Logic.{◌⊎◌, inl, inr}
use Prim.Native.Nat.{ℕ}
use native.Mathlib.Omega.{arith}
use Rattle.grammar.specs.Editions.{Edition}
use Rattle.grammar.specs.Language.{Lang, Stmt, S}
use Rattle.grammar.specs.Machine.{Out, next, refuse, Machine, lenient, over, and_then, Place, at, step, run}
use Rattle.grammar.proofs.MachineLaws.{Goes_on, refused, run-nil, run-append}
use Rattle.grammar.proofs.MachineLaws as Ml
use Rattle.grammar.proofs.StandLaws.{asked}
use Rattle.text.specs.Said as Old
use Rattle.text.specs.Judge.{Lexis}
use Rattle.law.specs.Network.{Line, Rules}
use Rattle.law.specs.Faults.{Begins}
use Rattle.law_spelling.specs.LineOf.{law_line}
use Rattle.law_faults.proofs.Needs.{Needs}

pub cons-nil : {A X : Type 0} {a : A} {l : List A} → [] ≡ a ∷ l → X
cons-nil e = absurd (let z : ◌≡◌ {A = ℕ} 0 1 = cc in omega arith)

module _ {Kind : Type 0} {Pay : Kind → Type 0} (Line-of : (k : Kind) → Pay k → List Old.Said) where
  -- the law's lines of statements
  abbrev pub laws : List (Stmt Kind Pay) → List Line
  laws l = map (law_line Line-of) l

  -- lines of statements, cut in two
  pub split : (xs ys : List Line) (l : List (Stmt Kind Pay)) → xs ++ ys ≡ laws l → (a : List (Stmt Kind Pay)) × (b : List (Stmt Kind Pay)) × (l ≡ a ++ b) × (xs ≡ laws a) × (ys ≡ laws b)
  split [] ys l e = ([], l, refl, refl, e)
  split (x ∷ xs) ys [] e = cons-nil (sym e)
  split (x ∷ xs) ys (s ∷ l) e =
      let r = split xs ys l (tail-eq_of_cons-eq e) in
      let h : x ≡ law_line Line-of s = head-eq_of_cons-eq e in
      (s ∷ r.0, r.1, ap (◌∷◌ s) r.2, ap (λ (x : Line). x ∷ xs) h ∙ ap (◌∷◌ (law_line Line-of s)) r.3, r.4)

  module _ (one : (s t : Stmt Kind Pay) → law_line Line-of s ≡ law_line Line-of t → s ≡ t) where
    pub said-one : (a b : List (Stmt Kind Pay)) → laws a ≡ laws b → a ≡ b
    said-one [] [] e = refl
    said-one [] (t ∷ b) e = cons-nil e
    said-one (s ∷ a) [] e = cons-nil (sym e)
    said-one (s ∷ a) (t ∷ b) e = ap (λ (x : Stmt Kind Pay). x ∷ a) (one s t (head-eq_of_cons-eq e)) ∙ ap (◌∷◌ t) (said-one a b (tail-eq_of_cons-eq e))

-- ## Runs
module _ {L : Lang} (A : Machine L) where
  -- what is taken is taken where no option has to be given
  pub step-lenient : (p q : Place A) (s : S L) → step A p s ≡ next q → step (lenient A) p s ≡ next q
  step-lenient p q s e = go (asked A p s)
    where
      go : (step A p s ≡ step (lenient A) p s) ⊎ ((step A p s ≡ refuse 25) × (q : Place A) × (step (lenient A) p s ≡ next q)) → step (lenient A) p s ≡ next q
      go (inl i) = sym i ∙ e
      go (inr x) = refused (sym x.0 ∙ e)

  pub run-lenient : (p q : Place A) (l : List (S L)) → run A p l ≡ next q → run (lenient A) p l ≡ next q
  unfolding run
  run-lenient p q [] e = e
  run-lenient p q (s ∷ l) e = go (step A p s) refl e (λ m. run-lenient m q l)
    where
      go : (o : Out (Place A)) → step A p s ≡ o → and_then o (λ m. run A m l) ≡ next q → ((m : Place A) → run A m l ≡ next q → run (lenient A) m l ≡ next q) → and_then (step (lenient A) p s) (λ m. run (lenient A) m l) ≡ next q
      go (next m) h e ih = rw (step-lenient p m s h) (ih m e)
      go (refuse c) h e ih = refused e

  -- what is taken is taken part by part ..
  pub run-parts : (p q : Place A) (a b : List (S L)) → run A p (a ++ b) ≡ next q → (m : Place A) × (run A p a ≡ next m) × (run A m b ≡ next q)
  run-parts p q a b e = go (run A p a) refl (sym (run-append A p a b) ∙ e)
    where
      go : (o : Out (Place A)) → run A p a ≡ o → and_then o (λ m. run A m b) ≡ next q → (m : Place A) × (run A p a ≡ next m) × (run A m b ≡ next q)
      go (next m) h e = (m, h, e)
      go (refuse c) h e = refused e

  pub run-both : (p m q : Place A) (a b : List (S L)) → run A p a ≡ next m → run A m b ≡ next q → run A p (a ++ b) ≡ next q
  run-both p m q a b e f = run-append A p a b ∙ ap (λ (o : Out (Place A)). and_then o (λ m. run A m b)) e ∙ f

  -- .. and one by one
  pub run-one : (p q : Place A) (s : S L) (l : List (S L)) → run A p (s ∷ l) ≡ next q → (m : Place A) × (step A p s ≡ next m) × (run A m l ≡ next q)
  unfolding run
  run-one p q s l e = go (step A p s) refl e
    where
      go : (o : Out (Place A)) → step A p s ≡ o → and_then o (λ m. run A m l) ≡ next q → (m : Place A) × (step A p s ≡ next m) × (run A m l ≡ next q)
      go (next m) h e = (m, h, e)
      go (refuse c) h e = refused e

  pub one-run : (p m q : Place A) (s : S L) (l : List (S L)) → step A p s ≡ next m → run A m l ≡ next q → run A p (s ∷ l) ≡ next q
  unfolding run
  one-run p m q s l e f = rw e f

  pub nil-run : (p q : Place A) → run A p [] ≡ next q → p ≡ q
  nil-run p q e = let h : next p ≡ next q = sym (run-nil A p) ∙ e in cc

  -- at one place only
  pub one_place : {o : Out (Place A)} {p q : Place A} → o ≡ next p → o ≡ next q → p ≡ q
  one_place {o} {p} {q} e f = let h : next p ≡ next q = sym e ∙ f in cc

module _ {ed : Edition} {rules : Rules} {L : Lang} (A : Machine L) (X : Lexis L) (Line-of : (k : L.Kind) → L.Pay k → List Old.Said) {Net : Type 0} (Said : Net → List (S L) → Type 0) (Spells : Rules → Net → List Line → Type 0) (first : A.Base) (N : Needs ed rules A X Line-of Said Spells first) where
  -- statements that lead to a place
  abbrev pub Came : List (S L) → Place A → Type 0
  Came said p = run A (at A first) said ≡ next p

  abbrev law : S L → Line
  law = law_line Line-of

  -- ## Beginnings
  goes_on : (b : A.Base) → N.file.Good b → Goes_on A N.file.Good N.file.cost b
  goes_on b y = let x = N.file.leaves b y in record { keeps = N.file.keeps b y; v = x.v 0; ok = x.ok 0; less = x.less 0; readied = λ g. (N.file.readied b y g 0).ready }

  pub begins-to : (said : List (S L)) (p : Place A) → Came said p → Begins rules Spells (laws Line-of said)
  begins-to said p e =
      let r = Ml.begins A N.file.Good N.file.cost goes_on first N.file.good_first p said e in
      let s = N.file.sound (said ++ r.0) r.1 in
      record { rest = laws Line-of r.0; net = s.0; spelled = subst (Spells rules s.0) (map-append law said r.0) (N.to s.0 (said ++ r.0) s.1) }

  pub begins-back : (lines : List Line) → Begins rules Spells lines → (said : List (S L)) × (p : Place A) × (lines ≡ laws Line-of said) × Came said p
  begins-back lines b =
      let x = N.back b.net (lines ++ b.rest) b.spelled in
      let s = split Line-of lines b.rest x.0 x.1 in
      let c : run A (at A first) (s.0 ++ s.1) ≡ next over = subst (λ (l : List (S L)). run A (at A first) l ≡ next over) s.2 (N.file.complete b.net x.0 x.2) in
      let r = run-parts A (at A first) over s.0 s.1 c in
      (s.0, r.0, s.3, r.1)

  -- ## One more line
  pub line-to : (said : List (S L)) (p q : Place A) (s : S L) → Came said p → step A p s ≡ next q → Begins rules Spells (laws Line-of said ++ (law s ∷ []))
  line-to said p q s c e = subst (Begins rules Spells) (map-append law said (s ∷ [])) (begins-to (said ++ (s ∷ [])) q (run-both A (at A first) p q said (s ∷ []) c (one-run A p q q s [] e (run-nil A q))))

  pub line-back : (said : List (S L)) (p : Place A) (line : Line) → Came said p → Begins rules Spells (laws Line-of said ++ (line ∷ [])) → (s : S L) × (q : Place A) × (line ≡ law s) × (step A p s ≡ next q)
  line-back said p line c b = go (begins-back (laws Line-of said ++ (line ∷ [])) b)
    where
      last : (b : List (S L)) (q : Place A) → line ∷ [] ≡ laws Line-of b → run A p b ≡ next q → (s : S L) × (q : Place A) × (line ≡ law s) × (step A p s ≡ next q)
      last [] q e r = cons-nil (sym e)
      last (s ∷ b) q e r = let x = run-one A p q s b r in (s, x.0, head-eq_of_cons-eq e, x.1)

      go : (all : List (S L)) × (q : Place A) × (laws Line-of said ++ (line ∷ []) ≡ laws Line-of all) × Came all q → (s : S L) × (q : Place A) × (line ≡ law s) × (step A p s ≡ next q)
      go (all, q, e, r) =
          let s = split Line-of (laws Line-of said) (line ∷ []) all e in
          let a : s.0 ≡ said = sym (said-one Line-of N.one said s.0 s.3) in
          let h : all ≡ said ++ s.1 = s.2 ∙ ap (λ (a : List (S L)). a ++ s.1) a in
          let x = run-parts A (at A first) q said s.1 (subst (λ (l : List (S L)). Came l q) h r) in
          last s.1 q s.4 (subst (λ (m : Place A). run A m s.1 ≡ next q) (one_place A x.1 c) x.2)
