-- Which field opens a line of a kind: at a place where such a line is taken, the field by which it is made out. For every file. Assumes nothing.
use mathlib.Core.Path.{◌≡◌, refl, sym, ap, subst, ◌∙◌}
use mathlib.Core.List.{List, [], ◌∷◌, ◌++◌, head-eq_of_cons-eq}
use mathlib.Core.Option.{Option, none, some}
use mathlib.Core.Bool.{Bool, true, false, ◌&&◌}
use Prim.Native.Nat.{ℕ}
use native.Mathlib.Omega.{arith}
use lib.Dec.{T}
use Rattle.terms.specs.Ascii.{Bytes}
use Rattle.terms.specs.Words.{pick, Each}
use Rattle.terms.proofs.Tests.{nothing, clash}
use Rattle.line.specs.Content.{Field}
use Rattle.word.specs.Keywords.{BeginsWithDigit}
use Rattle.word.specs.Number.{digit_first}
use Rattle.word.proofs.Digit.{digit-only, digit-all}
use Rattle.grammar.specs.Editions.{Edition}
use Rattle.grammar.specs.Language.{Lang, S, say}
use Rattle.grammar.specs.Machine.{judge, next, Opt, good, opt_at, take, Machine, over, inside, Place, enter, step}
use Rattle.grammar.specs.Stands.{given, as_due, of_row_of, stands}
use Rattle.grammar.proofs.LanguageLaws.{as_same}
use Rattle.grammar.proofs.MachineLaws.{none_of}
use Rattle.grammar.proofs.Keeping.{GoodPlace}
use Rattle.grammar.proofs.StandLaws.{step-due}
use Rattle.text.specs.Said as Old
use Rattle.text.specs.Judge.{Lexis, due_at, numbered, kind_at}
use Rattle.text.proofs.FieldReading.{said}
use Rattle.text.proofs.Telling.{in-front, Lawful, line-is}
use Rattle.law.specs.Network.{Line, word, numbers, Rules}
use Rattle.law.specs.Faults.{Opens, keyword, digit}
use Rattle.law_spelling.specs.LineOf.{law_line}
use Rattle.law_faults.proofs.Sorts.{law-said, law-front, law-line-is}
use Rattle.law_faults.proofs.Needs.{Listed, Values, Needs}

-- ## Fields that open
pub opens-word : {f : Field} {w : Bytes} {l : Line} → Opens f (word w ∷ l) → f.bytes ≡ w
opens-word (keyword e) = e

opens-digit : {f : Field} {i : List ℕ} {l : Line} → Opens f (numbers i ∷ l) → digit_first f.bytes ≡ true
opens-digit {f} (digit {b = b} {rest = rest} e d) = ap digit_first e ∙ digit-all (b ∷ rest) d

pub digit-opens : (f : Field) (i : List ℕ) (l : Line) → digit_first f.bytes ≡ true → Opens f (numbers i ∷ l)
digit-opens f i l e = go f.bytes refl (digit-only f.bytes e)
  where
    go : (b : Bytes) → f.bytes ≡ b → BeginsWithDigit b → Opens f (numbers i ∷ l)
    go [] q d = absurd d
    go (b ∷ rest) q d = digit q d

-- ## Rows of options
module _ (L : Lang) where
  open L use {Kind, Pay, disc}

  -- what holds of every option of a row holds of a kind that is one of them
  pub given_in : (Q : Kind → Type 0) (row : List (Opt Kind Pay)) (g : List Bool) (k : Kind) (x : Bool) → given L row g k ≡ some x → Each (λ o. Q o.on) row → Q k
  given_in Q [] g k x e h = nothing e
  given_in Q (o ∷ row) [] k x e h = nothing e
  given_in Q (o ∷ row) (f ∷ g) k x e h = go (disc k o.on) e (λ e. given_in Q row g k x e h.1)
    where
      go : (d : Dec (k ≡ o.on)) → ◌≡◌ {A = Option Bool} (elim d as (λ x. Option Bool) [ yes e ↦ some (o.once && f) | no n ↦ given L row g k ]) (some x) → (given L row g k ≡ some x → Q k) → Q k
      go (yes q) e ih = subst Q (sym q) h.0
      go (no n) e ih = ih e

  -- an option that may stand is taken with some value, where each option has one
  pub value_in : (row : List (Opt Kind Pay)) (g : List Bool) (k : Kind) → given L row g k ≡ some false → Each (λ o. (v : Pay o.on) × T (o.test v)) row → (v : Pay k) × (g' : List Bool) × (opt_at L row g (say L k v) ≡ good g')
  value_in [] g k e h = nothing e
  value_in (o ∷ row) [] k e h = nothing e
  value_in (o ∷ row) (f ∷ g) k e h = go (disc k o.on) e (λ e. value_in row g k e h.1)
    where
      taken : (b t : Bool) (v : Pay o.on) → b ≡ false → T t → judge b t (o.once ∷ g) ≡ good (o.once ∷ g)
      taken true t v e h = clash e
      taken false true v e h = refl
      taken false false v e h = absurd h

      here : (o.once && f) ≡ false → (v : Pay o.on) × (g' : List Bool) × (opt_at L (o ∷ row) (f ∷ g) (say L o.on v) ≡ good g')
      here q =
          let v = h.0.0 in
          (v, o.once ∷ g, ap (λ (x : Option (Pay o.on)). take L o f g x (opt_at L row g (say L o.on v))) (as_same L o.on v) ∙ taken (o.once && f) (o.test v) v q h.0.1)

      go : (d : Dec (k ≡ o.on)) → ◌≡◌ {A = Option Bool} (elim d as (λ x. Option Bool) [ yes e ↦ some (o.once && f) | no n ↦ given L row g k ]) (some false)
          → (given L row g k ≡ some false → (v : Pay k) × (g' : List Bool) × (opt_at L row g (say L k v) ≡ good g')) → (v : Pay k) × (g' : List Bool) × (opt_at L (o ∷ row) (f ∷ g) (say L k v) ≡ good g')
      go (yes q) e ih =
          let z : (o.once && f) ≡ false = cc in
          subst (λ (k : Kind). (v : Pay k) × (g' : List Bool) × (opt_at L (o ∷ row) (f ∷ g) (say L k v) ≡ good g')) (sym q) (here z)
      go (no n) e ih =
          let x = ih e in
          (x.0, f ∷ x.1, rw (none_of L o.on (say L k x.0) n, x.2))

module _ {ed : Edition} {rules : Rules} {L : Lang} (A : Machine L) (X : Lexis L) (Line-of : (k : L.Kind) → L.Pay k → List Old.Said) {Net : Type 0} (Said : Net → List (S L) → Type 0) (Spells : Rules → Net → List Line → Type 0) (first : A.Base) (N : Needs ed rules A X Line-of Said Spells first) where
  open L use {Kind, Pay, disc}

  abbrev W : Lawful A X Line-of
  W = N.file.lawful

  abbrev law : S L → Line
  law = law_line Line-of

  -- ## Lines of a kind
  -- a line of a keyword; a line without one
  abbrev values_of : (k : Kind) → Pay k → Line
  values_of k v = law-said (X.sorts k) (W.parts k v)

  pub word_line : (k : Kind) (v : Pay k) (w : Bytes) → X.keyword k ≡ some w → law (say L k v) ≡ word w ∷ values_of k v
  word_line k v w e = law-line-is A X Line-of W k v ∙ ap (λ (o : Option Bytes). law-front o ++ values_of k v) e

  number-line : (k : Kind) (v : Pay k) → X.keyword k ≡ none → (i : List ℕ) × (l : Line) × (law (say L k v) ≡ numbers i ∷ l)
  number-line k v e =
      let x = N.numeric k e (W.parts k v) in
      (x.0, x.1, law-line-is A X Line-of W k v ∙ ap (λ (o : Option Bytes). law-front o ++ values_of k v) e ∙ x.2)

  -- a line that begins with a word is of the kind of that keyword
  pub word-kind : (k : Kind) (v : Pay k) (w : Bytes) (l : Line) → law (say L k v) ≡ word w ∷ l → X.keyword k ≡ some w
  word-kind k v w l e = go (X.keyword k) refl
    where
      go : (o : Option Bytes) → X.keyword k ≡ o → o ≡ some w
      go none q =
          let x = number-line k v q in
          let z : numbers x.0 ∷ x.1 ≡ word w ∷ l = sym x.2 ∙ e in
          absurd (let z : ◌≡◌ {A = ℕ} 0 1 = cc in omega arith)
      go (some u) q =
          let z : word u ∷ values_of k v ≡ word w ∷ l = sym (word_line k v u q) ∙ e in
          ap some (let z : u ≡ w = cc in z)

  -- ## Kinds that are made out
  numbered_is : (p : Place A) (k : Kind) → numbered A X p ≡ some k → X.keyword k ≡ none
  unfolding numbered
  numbered_is over k e = nothing e
  numbered_is (inside b g) k e = go (X.keyword (A.due b).on) refl e
    where
      go : (o : Option Bytes) → X.keyword (A.due b).on ≡ o → due_at o (A.due b).on ≡ some k → X.keyword k ≡ none
      go none q e = let d : (A.due b).on ≡ k = cc in subst (λ (k : Kind). X.keyword k ≡ none) d q
      go (some w) q e = nothing e

  due-numbered : (p : Place A) (k : Kind) → X.keyword k ≡ none → stands A p k ≡ none → numbered A X p ≡ some k
  unfolding numbered stands
  due-numbered over k e h = nothing (sym h)
  due-numbered (inside b g) k e h = go (given L (A.opts b) g k) refl (disc k (A.due b).on) h
    where
      go : (x : Option Bool) → given L (A.opts b) g k ≡ x → (d : Dec (k ≡ (A.due b).on)) → of_row_of x (as_due d) ≡ none → due_at (X.keyword (A.due b).on) (A.due b).on ≡ some k
      go (some x) q d h = absurd (subst Listed e (given_in L (λ k. Listed (X.keyword k)) (A.opts b) g k x q (N.listed b)))
      go none q (yes i) h = rw (ap X.keyword (sym i) ∙ e) (ap some (sym i))
      go none q (no n) h = nothing (sym h)

  -- the field by which a kind is made out opens every line of it ..
  pub kind-opens : (p : Place A) (f : Field) (k : Kind) (v : Pay k) → kind_at A X p f ≡ some k → Opens f (law (say L k v))
  kind-opens p f k v e = go (digit_first f.bytes) refl e
    where
      go : (x : Bool) → digit_first f.bytes ≡ x → pick x (numbered A X p) (X.lookup f.bytes) ≡ some k → Opens f (law (say L k v))
      go true q e =
          let x = number-line k v (numbered_is p k e) in
          subst (Opens f) (sym x.2) (digit-opens f x.0 x.1 q)
      go false q e = subst (Opens f) (sym (word_line k v f.bytes (W.lookup_right f.bytes k e))) (keyword refl)

  -- .. and a kind is made out by a field that opens a line of it, if such lines have a keyword or may stand
  pub word-opens : (p : Place A) (f : Field) (k : Kind) (v : Pay k) (w : Bytes) → X.keyword k ≡ some w → Opens f (law (say L k v)) → kind_at A X p f ≡ some k
  word-opens p f k v w e o =
      let b : f.bytes ≡ w = opens-word (subst (Opens f) (word_line k v w e) o) in
      let e' : X.keyword k ≡ some f.bytes = e ∙ ap some (sym b) in
      rw (W.no_digit f.bytes k e') (W.lookup_only f.bytes k e')

  pub opens-kind : (p : Place A) (f : Field) (k : Kind) (v : Pay k) → stands A p k ≡ none → Opens f (law (say L k v)) → kind_at A X p f ≡ some k
  opens-kind p f k v h o = go (X.keyword k) refl
    where
      go : (x : Option Bytes) → X.keyword k ≡ x → kind_at A X p f ≡ some k
      go (some w) e = word-opens p f k v w e o
      go none e =
          let x = number-line k v e in
          rw (opens-digit (subst (Opens f) x.2 o)) (due-numbered p k e h)

  -- fields that spell a line of a kind open it
  pub spelled-opens : (f : Field) (fs : List Field) (k : Kind) (v : Pay k) → Old.SpellFields (f ∷ fs) (Line-of k v) → Opens f (law (say L k v))
  spelled-opens f fs k v s = go (X.keyword k) refl (subst (Old.SpellFields (f ∷ fs)) (line-is A X Line-of W k v) s)
    where
      go : (o : Option Bytes) → X.keyword k ≡ o → Old.SpellFields (f ∷ fs) (in-front o ++ said (X.sorts k) (W.parts k v)) → Opens f (law (say L k v))
      go (some w) e h = subst (Opens f) (sym (word_line k v w e)) (keyword h.0)
      go none e h =
          let x = W.digit k e (f ∷ fs) (W.parts k v) h in
          let y = number-line k v e in
          subst (Opens f) (sym y.2) (digit-opens f y.0 y.1 (subst (λ (g : Field). digit_first g.bytes ≡ true) (sym (head-eq_of_cons-eq x.2)) x.3))

  -- ## Some value of a kind that may stand is permitted, where no option has to be given
  pub some-value : ((b : A.Base) (g : List Bool) → T (A.ready b g)) → (p : Place A) → GoodPlace A (Values A) p → GoodPlace A N.file.Good p → (k : Kind) → stands A p k ≡ none → (v : Pay k) × (q : Place A) × (step A p (say L k v) ≡ next q)
  unfolding stands step
  some-value r over y z k h = nothing (sym h)
  some-value r (inside b g) y z k h = go (given L (A.opts b) g k) refl (disc k (A.due b).on) h
    where
      go : (x : Option Bool) → given L (A.opts b) g k ≡ x → (d : Dec (k ≡ (A.due b).on)) → of_row_of x (as_due d) ≡ none → (v : Pay k) × (q : Place A) × (step A (inside b g) (say L k v) ≡ next q)
      go (some true) q d h = nothing (sym h)
      go (some false) q d h =
          let x = value_in L (A.opts b) g k q y in
          (x.0, inside b x.1, rw x.2)
      go none q (yes i) h =
          let x = N.file.leaves b z in
          subst (λ (k : Kind). (v : Pay k) × (q : Place A) × (step A (inside b g) (say L k v) ≡ next q)) (sym i) (x.v 0, enter A ((A.due b).then (x.v 0)), step-due A b g (x.v 0) (x.ok 0) (r b g))
      go none q (no n) h = nothing (sym h)
