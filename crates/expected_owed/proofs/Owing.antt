-- Behind statements that lead to a place, every whole file goes on with as many lines that begin with numbers as the place owes, and then with a keyword's. For every file. Assumes nothing.
use mathlib.Core.Path.{◌≡◌, refl, sym, ap, subst, ◌∙◌}
use mathlib.Core.List.{List, [], ◌∷◌, ◌++◌}
use mathlib.Core.Option.{Option, none, some}
use mathlib.Core.Bool.{Bool, true, false, ◌&&◌}
use Prim.Native.Nat.{ℕ, zero, suc}
use lib.Dec.{T}
use lib.Ieee.Fits.{and_l, and_r}
use lib.ListN.{length}
use Rattle.terms.specs.Ascii.{Bytes}
use Rattle.terms.specs.Words.{Each}
use Rattle.grammar.specs.Editions.{Edition}
use Rattle.grammar.specs.Language.{Lang, S, say, as_kind}
use Rattle.grammar.specs.Machine.{Out, next, refuse, Opt, Verdict, other, bad, good, judge, onto, take, opt_at, Machine, over, inside, guard, Place, at, enter, hit, settle, step, run}
use Rattle.grammar.proofs.LanguageLaws.{as-inv}
use Rattle.grammar.proofs.MachineLaws.{refused}
use Rattle.grammar.proofs.StandLaws.{is_over}
use Rattle.text.specs.Said as Old
use Rattle.text.specs.Judge.{Lexis}
use Rattle.law.specs.Network.{Line, word, numbers, Rules}
use Rattle.law_spelling.specs.LineOf.{law_line}
use Rattle.law_faults.proofs.Needs.{Needs}
use Rattle.law_faults.proofs.Reached.{laws, split, said-one, run-parts, run-one, nil-run, one_place, Came}
use Rattle.expected_law.specs.Expected.{StillOwed}

-- so many lines that begin with numbers, and then one with a keyword: what StillOwed says of the rest of a file
abbrev pub GoesOnWith : ℕ → List Line → Type 0
GoesOnWith k rest = (come : List Line) × (w : Bytes) × (l : Line) × (behind : List Line)
    × (rest ≡ come ++ ((word w ∷ l) ∷ behind)) × (length come ≡ k) × Each (λ line. (i : List ℕ) × (others : Line) × (line ≡ numbers i ∷ others)) come

-- ## Where every option was given, only what is due is taken
-- a row that says this takes the statement for none of its options
abbrev Untaken : Verdict → Type 0
Untaken other = Unit {0}
Untaken (bad c) = Unit {0}
Untaken (good g) = ⊥

module _ (L : Lang) where
  open L use {Kind, Pay}

  -- each option of the row may come once only, and was given
  abbrev pub spent : List (Opt Kind Pay) → List Bool → Bool
  spent [] g = true
  spent (o ∷ row) [] = true
  spent (o ∷ row) (f ∷ g) = (o.once && f) && spent row g

  untaken : (row : List (Opt Kind Pay)) (g : List Bool) (s : S L) → T (spent row g) → Untaken (opt_at L row g s)
  untaken [] g s t = tt
  untaken (o ∷ row) [] s t = tt
  untaken (o ∷ row) (f ∷ g) s t = go (as_kind L o.on s) (untaken row g s (and_r (o.once && f) (spent row g) t))
    where
      judged : (x y : Bool) (h : List Bool) → T x → Untaken (judge x y h)
      judged true y h t = tt
      judged false y h t = absurd t

      passed_on : (v : Verdict) → Untaken v → Untaken (onto f v)
      passed_on other u = tt
      passed_on (bad c) u = tt
      passed_on (good h) u = u

      go : (x : Option (Pay o.on)) → Untaken (opt_at L row g s) → Untaken (take L o f g x (opt_at L row g s))
      go (some v) u = judged (o.once && f) (o.test v) (o.once ∷ g) (and_l (o.once && f) (spent row g) t)
      go none u = passed_on (opt_at L row g s) u

module _ {L : Lang} (A : Machine L) where
  open L use {Pay}
  open A use {Base, opts, due, ready}

  due-only : (b : Base) (g : List Bool) → T (spent L (opts b) g) → (s : S L) (q : Place A) → step A (inside b g) s ≡ next q → (v : Pay (due b).on) × (s ≡ say L (due b).on v) × (q ≡ enter A ((due b).then v))
  unfolding step guard
  due-only b g t s q e = go (opt_at L (opts b) g s) (untaken L (opts b) g s t) e
    where
      guarded : (x y : Bool) (p : Place A) → guard x 9 (guard y 25 (next p)) ≡ next q → q ≡ p
      guarded true true p e = one_place A e refl
      guarded true false p e = refused e
      guarded false y p e = refused e

      hits : (o : Option (Pay (due b).on)) → as_kind L (due b).on s ≡ o → hit A b g o ≡ next q → (v : Pay (due b).on) × (s ≡ say L (due b).on v) × (q ≡ enter A ((due b).then v))
      hits (some v) i e = (v, as-inv L (due b).on s v i, guarded ((due b).test v) (ready b g) (enter A ((due b).then v)) e)
      hits none i e = refused e

      go : (x : Verdict) → Untaken x → settle A b g x s ≡ next q → (v : Pay (due b).on) × (s ≡ say L (due b).on v) × (q ≡ enter A ((due b).then v))
      go other u e = hits (as_kind L (due b).on s) refl e
      go (bad c) u e = refused e
      go (good h) u e = absurd u

-- ## What a place owes
module _ {L : Lang} (A : Machine L) (Line-of : (k : L.Kind) → L.Pay k → List Old.Said) where
  open L use {Pay}
  open A use {Base, opts, due}

  -- the line of a statement begins with a keyword, or with numbers
  abbrev pub ByKeyword : S L → Type 0
  ByKeyword s = (w : Bytes) × (l : Line) × (law_line Line-of s ≡ word w ∷ l)

  abbrev pub ByNumbers : S L → Type 0
  ByNumbers s = (i : List ℕ) × (others : Line) × (law_line Line-of s ≡ numbers i ∷ others)

  -- whatever is taken from here on: so many lines that begin with numbers, then one with a keyword; and it is not the end
  abbrev pub Owes : ℕ → Place A → Type 0
  Owes zero p = (is_over A p ≡ false) × ((s : S L) (q : Place A) → step A p s ≡ next q → ByKeyword s)
  Owes (suc k) p = (is_over A p ≡ false) × ((s : S L) (q : Place A) → step A p s ≡ next q → ByNumbers s × Owes k q)

  pub owes-none : (b : Base) (g : List Bool) → T (spent L (opts b) g) → ((v : Pay (due b).on) → ByKeyword (say L (due b).on v)) → Owes 0 (inside b g)
  owes-none b g t w = (refl, λ s q e. let x = due-only A b g t s q e in subst ByKeyword (sym x.1) (w x.0))

  pub owes_more : (k : ℕ) (b : Base) (g : List Bool) → T (spent L (opts b) g) → ((v : Pay (due b).on) → ByNumbers (say L (due b).on v) × Owes k (enter A ((due b).then v))) → Owes (suc k) (inside b g)
  owes_more k b g t w = (refl, λ s q e. let x = due-only A b g t s q e in (subst ByNumbers (sym x.1) (w x.0).0, subst (Owes k) (sym x.2) (w x.0).1))

  not-ended : {X : Type 0} (p : Place A) → is_over A p ≡ false → run A p [] ≡ next over → X
  not-ended p h e = absurd (subst T (sym (ap (is_over A) (nil-run A p over e)) ∙ h) tt)

  comes : (k : ℕ) (p : Place A) → Owes k p → (l : List (S L)) → run A p l ≡ next over → GoesOnWith k (laws Line-of l)
  comes zero p o [] e = not-ended p o.0 e
  comes zero p o (s ∷ l) e =
      let x = run-one A p over s l e in
      let y = o.1 s x.0 x.1 in
      ([], y.0, y.1, laws Line-of l, ap (λ (x : Line). x ∷ laws Line-of l) y.2, refl, tt)
  comes (suc k) p o [] e = not-ended p o.0 e
  comes (suc k) p o (s ∷ l) e =
      let x = run-one A p over s l e in
      let y = o.1 s x.0 x.1 in
      let z = comes k x.0 y.1 l x.2 in
      (law_line Line-of s ∷ z.0, z.1, z.2, z.3, ap (◌∷◌ (law_line Line-of s)) z.4, ap suc z.5, (y.0, z.6))

-- ## So of whole files
module _ {ed : Edition} {rules : Rules} {L : Lang} (A : Machine L) (X : Lexis L) (Line-of : (k : L.Kind) → L.Pay k → List Old.Said) {Net : Type 0} (Said : Net → List (S L) → Type 0) (Spells : Rules → Net → List Line → Type 0) (first : A.Base) (N : Needs ed rules A X Line-of Said Spells first) where
  pub still-owed : (said : List (S L)) (p : Place A) → Came A X Line-of Said Spells first N said p → (k : ℕ) → Owes A Line-of k p → StillOwed rules Spells (laws Line-of said) k
  still-owed said p c k o net rest h =
      let x = N.back net (laws Line-of said ++ rest) h in
      let s = split Line-of (laws Line-of said) rest x.0 x.1 in
      let a : s.0 ≡ said = sym (said-one Line-of N.one said s.0 s.3) in
      let l : x.0 ≡ said ++ s.1 = s.2 ∙ ap (λ (a : List (S L)). a ++ s.1) a in
      let r = run-parts A (at A first) over said s.1 (subst (λ (l : List (S L)). run A (at A first) l ≡ next over) l (N.file.complete net x.0 x.2)) in
      subst (GoesOnWith k) (sym s.4) (comes A Line-of k p o s.1 (subst (λ (m : Place A). run A m s.1 ≡ next over) (one_place A r.1 c) r.2))
