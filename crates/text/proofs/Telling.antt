-- What is told of a line's fields at a place is exactly what they spell and the machine takes. For every file. Assumes nothing.
use mathlib.Core.Path.{◌≡◌, refl, sym, ap, subst, ◌∙◌}
use mathlib.Core.List.{List, [], ◌∷◌, ◌++◌}
use mathlib.Core.Option.{Option, none, some}
use mathlib.Core.Bool.{Bool, true, false, ◌&&◌}
use Prim.Native.Nat.{ℕ}
use native.Mathlib.Omega.{arith}
use borrow.Author.Tests.{eq-eqb}
use lib.ListN.{length}
use lib.Dec.{T, eqb}
use lib.Ieee.Fits.{and_l, and_r}
use Rattle.terms.specs.Ascii.{Bytes}
use Rattle.terms.proofs.Tests.{nothing}
use Rattle.terms.specs.Words.{pick}
use Rattle.line.specs.Content.{Field}
use Rattle.word.specs.Number.{digit_first}
use Rattle.grammar.specs.Language.{Lang, S, say}
use Rattle.grammar.specs.Machine.{Out, next, refuse, Opt, Machine, lenient, over, inside, Place, step}
use Rattle.grammar.specs.Stands.{given, as_due, of_row_of, stands}
use Rattle.grammar.proofs.StandLaws.{stands-all}
use Rattle.text.specs.Said.{Said, word, SpellFields}
use Rattle.text.specs.Judge.{Vals, read_all, Verdict, fault, good, check, Lexis, due_at, numbered, kind_at, args, taken, valued, standing, of_kind, known, tell}
use Rattle.text.proofs.FieldReading.{said, all_right, all-only}

pub passed : {S P : Type 0} (b : Bool) (n : ℕ) (v : Verdict S P) (o : Option S) (q : P) → check b n v ≡ good o q → (b ≡ true) × (v ≡ good o q)
passed true n v o q e = (refl, e)
passed false n v o q e = absurd (let z : ◌≡◌ {A = ℕ} 0 1 = cc in omega arith)

-- the keyword in front
abbrev pub in-front : Option Bytes → List Said
in-front none = []
in-front (some w) = word w ∷ []

abbrev pub has_word_lem : Option Bytes → Bool
has_word_lem none = false
has_word_lem (some w) = true

abbrev pub worded : (L : Lang) → (L.Kind → Option Bytes) → List (Opt L.Kind L.Pay) → Bool
worded L keyword [] = true
worded L keyword (o ∷ row) = has_word_lem (keyword o.on) && worded L keyword row

-- what holds of a file's words: its lines are a keyword and its values; each keyword is found; a line without one begins with a digit; an option has one
pub record Lawful {L : Lang} (A : Machine L) (X : Lexis L) (Line-of : (k : L.Kind) → L.Pay k → List Said) : Type 1 where
  pub parts : (k : L.Kind) → L.Pay k → Vals (X.sorts k)
  pub made : (k : L.Kind) (v : L.Pay k) → X.make k (parts k v) ≡ v
  pub line_made : (k : L.Kind) (w : Vals (X.sorts k)) → Line-of k (X.make k w) ≡ in-front (X.keyword k) ++ said (X.sorts k) w
  pub lookup_right : (w : Bytes) (k : L.Kind) → X.lookup w ≡ some k → X.keyword k ≡ some w
  pub lookup_only : (w : Bytes) (k : L.Kind) → X.keyword k ≡ some w → X.lookup w ≡ some k
  pub no_digit : (w : Bytes) (k : L.Kind) → X.keyword k ≡ some w → digit_first w ≡ false
  pub digit : (k : L.Kind) → X.keyword k ≡ none → (fs : List Field) (v : Vals (X.sorts k)) → SpellFields fs (said (X.sorts k) v) → (f : Field) × (gs : List Field) × (fs ≡ f ∷ gs) × (digit_first f.bytes ≡ true)
  pub options : (b : A.Base) → T (worded L X.keyword (A.opts b))

-- it holds as well where no option has to be given
pub lenient-lawful : {L : Lang} {A : Machine L} {X : Lexis L} {Line-of : (k : L.Kind) → L.Pay k → List Said} → Lawful A X Line-of → Lawful (lenient A) X Line-of
lenient-lawful W = record { parts = W.parts; made = W.made; line_made = W.line_made; lookup_right = W.lookup_right; lookup_only = W.lookup_only; no_digit = W.no_digit; digit = W.digit; options = W.options }

module _ {L : Lang} (A : Machine L) (X : Lexis L) (Line-of : (k : L.Kind) → L.Pay k → List Said) (W : Lawful A X Line-of) where
  open L use {Kind, Pay, disc}
  open X use {keyword, sorts, make, lookup}
  open A use {Base, opts, due}

  pub line-is : (k : Kind) (v : Pay k) → Line-of k v ≡ in-front (keyword k) ++ said (sorts k) (W.parts k v)
  line-is k v = ap (Line-of k) (sym (W.made k v)) ∙ W.line_made k (W.parts k v)

  -- how fields spell a statement
  abbrev pub Says : List Field → S L → Type 0
  Says fs s = SpellFields fs (Line-of s.kind s.val)

  -- ## A line that begins with a digit
  numbered-right : (p : Place A) (k : Kind) → numbered A X p ≡ some k → keyword k ≡ none
  unfolding numbered
  numbered-right over k e = nothing e
  numbered-right (inside b g) k e = go (keyword (due b).on) refl e
    where
      go : (o : Option Bytes) → keyword (due b).on ≡ o → due_at o (due b).on ≡ some k → keyword k ≡ none
      go none q e = let r : (due b).on ≡ k = cc in subst (λ (k : Kind). keyword k ≡ none) r q
      go (some w) q e = nothing e

  not-given : (k : Kind) → keyword k ≡ none → (row : List (Opt Kind Pay)) (g : List Bool) → T (worded L keyword row) → given L row g k ≡ none
  not-given k e [] g t = refl
  not-given k e (o ∷ row) [] t = refl
  not-given k e (o ∷ row) (f ∷ g) t = go (disc k o.on) (not-given k e row g (and_r (has_word_lem (keyword o.on)) (worded L keyword row) t))
    where
      lost : (w : Option Bytes) → w ≡ none → T (has_word_lem w) → ⊥
      lost none e t = t
      lost (some w) e t = nothing (sym e)

      go : (d : Dec (k ≡ o.on)) → given L row g k ≡ none → ◌≡◌ {A = Option Bool} (elim d as (λ x. Option Bool) [ yes e ↦ some (o.once && f) | no n ↦ given L row g k ]) none
      go (yes q) h = absurd (lost (keyword o.on) (ap keyword (sym q) ∙ e) (and_l (has_word_lem (keyword o.on)) (worded L keyword row) t))
      go (no n) h = h

  numbered-only : (p : Place A) (k : Kind) (v : Pay k) (q : Place A) → keyword k ≡ none → step A p (say L k v) ≡ next q → numbered A X p ≡ some k
  unfolding numbered stands
  numbered-only over k v q e h = nothing (sym (stands-all A over k v q h))
  numbered-only (inside b g) k v q e h = go (disc k (due b).on) (sym (ap (λ (x : Option Bool). of_row_of x (as_due (disc k (due b).on))) (not-given k e (opts b) g (W.options b))) ∙ stands-all A (inside b g) k v q h)
    where
      go : (d : Dec (k ≡ (due b).on)) → as_due d ≡ none → due_at (keyword (due b).on) (due b).on ≡ some k
      go (yes r) s = rw (ap keyword (sym r) ∙ e) (ap some (sym r))
      go (no n) s = nothing (sym s)

  -- ## The two are one
  bad : {Y : Type 0} {n : ℕ} {o : Option (S L)} {q : Place A} → ◌≡◌ {A = Verdict (S L) (Place A)} (fault n) (good o q) → Y
  bad e = absurd (let z : ◌≡◌ {A = ℕ} 0 1 = cc in omega arith)

  taken-right : (s : S L) (x : Out (Place A)) (o : Option (S L)) (q : Place A) → taken A X s x ≡ good o q → (o ≡ some s) × (x ≡ next q)
  taken-right s (next q') o q e =
      let a : some s ≡ o = cc in
      let b : q' ≡ q = cc in
      (sym a, ap next b)
  taken-right s (refuse c) o q e = bad e

  -- the values that were read, and the step
  record Got (p : Place A) (k : Kind) (fs : List Field) (o : Option (S L)) (q : Place A) : Type 0 where
    w : Vals (sorts k)
    is : o ≡ some (say L k (make k w))
    values : SpellFields fs (said (sorts k) w)
    goes : step A p (say L k (make k w)) ≡ next q

  kind-right : (p : Place A) (k : Kind) (fs : List Field) (o : Option (S L)) (q : Place A) → of_kind A X p k fs ≡ good o q → Got p k fs o q
  kind-right p k fs o q e = go (stands A p k) e
    where
      values : (x : Option (Vals (sorts k))) → read_all (sorts k) fs ≡ x → valued A X p k x ≡ good o q → Got p k fs o q
      values none r e = bad e
      values (some w) r e = let t = taken-right (say L k (make k w)) (step A p (say L k (make k w))) o q e in record { w = w; is = t.0; values = all_right (sorts k) fs w r; goes = t.1 }

      go : (x : Option ℕ) → standing A X x (check (eqb (length fs) (length (sorts k))) 7 (valued A X p k (read_all (sorts k) fs))) ≡ good o q → Got p k fs o q
      go (some n) e = bad e
      go none e = values (read_all (sorts k) fs) refl (passed (eqb (length fs) (length (sorts k))) 7 _ o q e).1

  kind-only : (p : Place A) (k : Kind) (fs : List Field) (w : Vals (sorts k)) (q : Place A) → SpellFields fs (said (sorts k) w) → step A p (say L k (make k w)) ≡ next q → of_kind A X p k fs ≡ good (some (say L k (make k w))) q
  kind-only p k fs w q h e =
      let x = all-only (sorts k) fs w h in
      rw (stands-all A p k (make k w) q e, eq-eqb (length fs) (length (sorts k)) x.1, x.0, e)

  -- a kind that was made out, by its keyword or by the place
  as-word : (f : Field) (fs : List Field) (k : Kind) (w : Vals (sorts k)) (o : Option Bytes) → o ≡ some f.bytes → SpellFields (args A X o f fs) (said (sorts k) w) → SpellFields (f ∷ fs) (in-front o ++ said (sorts k) w)
  as-word f fs k w none e h = nothing e
  as-word f fs k w (some b) e h = (let z : b ≡ f.bytes = cc in sym z, h)

  as_number : (f : Field) (fs : List Field) (k : Kind) (w : Vals (sorts k)) (o : Option Bytes) → o ≡ none → SpellFields (args A X o f fs) (said (sorts k) w) → SpellFields (f ∷ fs) (in-front o ++ said (sorts k) w)
  as_number f fs k w none e h = h
  as_number f fs k w (some b) e h = nothing (sym e)

  -- fields whose first is of a kind spell a statement exactly if those behind its keyword spell its values
  pub spelled-args : (p : Place A) (f : Field) (fs : List Field) (k : Kind) → kind_at A X p f ≡ some k → (w : Vals (sorts k)) → SpellFields (args A X (keyword k) f fs) (said (sorts k) w) → Says (f ∷ fs) (say L k (make k w))
  spelled-args p f fs k e w h = rw (W.line_made k w) (go (digit_first f.bytes) e)
    where
      go : (x : Bool) → pick x (numbered A X p) (lookup f.bytes) ≡ some k → SpellFields (f ∷ fs) (in-front (keyword k) ++ said (sorts k) w)
      go true e = as_number f fs k w (keyword k) (numbered-right p k e) h
      go false e = as-word f fs k w (keyword k) (W.lookup_right f.bytes k e) h

  pub args-spelled : (p : Place A) (f : Field) (fs : List Field) (k : Kind) → kind_at A X p f ≡ some k → (w : Vals (sorts k)) → SpellFields (f ∷ fs) (in-front (keyword k) ++ said (sorts k) w) → SpellFields (args A X (keyword k) f fs) (said (sorts k) w)
  args-spelled p f fs k e w h = go (keyword k) h
    where
      go : (o : Option Bytes) → SpellFields (f ∷ fs) (in-front o ++ said (sorts k) w) → SpellFields (args A X o f fs) (said (sorts k) w)
      go none h = h
      go (some b) h = h.1

  pub tell-right : (p : Place A) (f : Field) (fs : List Field) (o : Option (S L)) (q : Place A) → tell A X p f fs ≡ good o q → (s : S L) × (o ≡ some s) × Says (f ∷ fs) s × (step A p s ≡ next q)
  unfolding tell
  tell-right p f fs o q e = go (kind_at A X p f) refl e
    where
      go : (x : Option Kind) → kind_at A X p f ≡ x → known A X p x f fs ≡ good o q → (s : S L) × (o ≡ some s) × Says (f ∷ fs) s × (step A p s ≡ next q)
      go none r e = bad e
      go (some k) r e =
          let x = kind-right p k (args A X (keyword k) f fs) o q e in
          (say L k (make k x.w), x.is, spelled-args p f fs k r x.w x.values, x.goes)

  pub tell-only : (p : Place A) (fs : List Field) (s : S L) (q : Place A) → Says fs s → step A p s ≡ next q → (f : Field) × (gs : List Field) × (fs ≡ f ∷ gs) × (tell A X p f gs ≡ good (some s) q)
  unfolding tell
  tell-only p fs s q h e = go (keyword k) refl fs (subst (SpellFields fs) (line-is k v) h)
    where
      k : Kind
      k = s.kind

      v : Pay k
      v = s.val

      w : Vals (sorts k)
      w = W.parts k v

      goes : step A p (say L k (make k w)) ≡ next q
      goes = ap (λ (v : Pay k). step A p (say L k v)) (W.made k v) ∙ e

      back : {x : Verdict (S L) (Place A)} → x ≡ good (some (say L k (make k w))) q → x ≡ good (some s) q
      back h = h ∙ ap (λ (v : Pay k). good (some (say L k v)) q) (W.made k v)

      word-case : (b : Bytes) → keyword k ≡ some b → (f : Field) (fs : List Field) → f.bytes ≡ b → SpellFields fs (said (sorts k) w) → known A X p (kind_at A X p f) f fs ≡ good (some s) q
      word-case b r f fs d h =
          let r' : keyword k ≡ some f.bytes = r ∙ ap some (sym d) in
          rw (W.no_digit f.bytes k r', W.lookup_only f.bytes k r', r') (back (kind-only p k fs w q h goes))

      number-case : keyword k ≡ none → (f : Field) (fs : List Field) → digit_first f.bytes ≡ true → SpellFields (f ∷ fs) (said (sorts k) w) → known A X p (kind_at A X p f) f fs ≡ good (some s) q
      number-case r f fs d h = rw (d, numbered-only p k v q r e, r) (back (kind-only p k (f ∷ fs) w q h goes))

      go : (o : Option Bytes) → keyword k ≡ o → (fs : List Field) → SpellFields fs (in-front o ++ said (sorts k) w) → (f : Field) × (gs : List Field) × (fs ≡ f ∷ gs) × (known A X p (kind_at A X p f) f gs ≡ good (some s) q)
      go (some b) r [] h = absurd h
      go (some b) r (f ∷ fs) h = (f, fs, refl, word-case b r f fs h.0 h.1)
      go none r fs h =
          let x = W.digit k r fs w h in
          (x.0, x.1, x.2, number-case r x.0 x.1 x.3 (subst (λ (fs : List Field). SpellFields fs (said (sorts k) w)) x.2 h))
