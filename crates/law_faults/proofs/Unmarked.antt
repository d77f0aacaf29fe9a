-- A line has a fault of 2 to 9, or 25, at a place if and only if, for the law, it has that fault behind lines that lead to the place. For every file. Assumes nothing.
use mathlib.Core.Path.{◌≡◌, refl, sym, ap, subst, ◌∙◌}
use mathlib.Core.List.{List, [], ◌∷◌, ◌++◌}
use mathlib.Core.Option.{Option, none, some}
use mathlib.Core.Logic.{◌⊎◌, inl, inr}
use Prim.Native.Nat.{ℕ}
use native.Mathlib.Omega.{arith}
use Rattle.terms.specs.Ascii.{Bytes}
use Rattle.terms.specs.Words.{pick}
use Rattle.line.specs.Content.{Field}
use Rattle.word.specs.Number.{digit_first}
use Rattle.grammar.specs.Editions.{Edition, law_of}
use Rattle.grammar.specs.Language.{Lang, S, say}
use Rattle.grammar.specs.Machine.{Out, next, refuse, Machine, over, inside, Place, at, step}
use Rattle.grammar.specs.Machine as Machine
use Rattle.grammar.specs.Stands.{stands}
use Rattle.grammar.proofs.MachineLaws.{refused}
use Rattle.grammar.proofs.StandLaws.{asked, stands-lenient, stands-all, lenient-nine}
use Rattle.text.specs.Said as Said
use Rattle.text.specs.Judge.{Lexis, numbered, kind_at}
use Rattle.text.specs.Faults.{Fielded, MayStand, Fault, form, unknown, misplaced, given_again, miscounted, misspelt, forbidden, unmarked}
use Rattle.law.specs.Network.{Line, Rules, SpellFields, reading, lenient}
use Rattle.law.specs.Faults as Law
use Rattle.law_spelling.specs.LineOf.{law_line}
use Rattle.law_spelling.proofs.Fields.{fields-to, fields_back}
use Rattle.law_faults.proofs.Needs.{Needs}
use Rattle.law_faults.proofs.Reached.{laws, Came, run-lenient, line-to, line-back}
use Rattle.law_faults.proofs.Opening.{spelled-opens, opens-kind}
use Rattle.law_faults.proofs.LineFaults.{Bare}
use Rattle.law_faults.proofs.LineFaults as Lenient

-- the kind that a field opens is the same where no option has to be given
module _ {L : Lang} (A : Machine L) (X : Lexis L) where
  numbered-same : (p : Place A) → numbered (Machine.lenient A) X p ≡ numbered A X p
  unfolding numbered
  numbered-same over = refl
  numbered-same (inside b g) = refl

  pub kind-same : (p : Place A) (f : Field) → kind_at (Machine.lenient A) X p f ≡ kind_at A X p f
  kind-same p f = ap (λ (o : Option L.Kind). pick (digit_first f.bytes) o (X.lookup f.bytes)) (numbered-same p)

-- N: the file; M: the same where no option has to be given
module _ {ed : Edition} {L : Lang} (A : Machine L) (X : Lexis L) (Line-of : (k : L.Kind) → L.Pay k → List Said.Said) {Net : Type 0} (Said Loose : Net → List (S L) → Type 0) (Spells : Rules → Net → List Line → Type 0) (first : A.Base)
    (N : Needs ed (reading (law_of ed)) A X Line-of Said Spells first) (M : Needs ed (lenient (reading (law_of ed))) (Machine.lenient A) X Line-of Loose Spells first) where
  open L use {Kind, Pay}

  abbrev B : Machine L
  B = Machine.lenient A

  abbrev law : S L → Line
  law = law_line Line-of

  -- ## At one place
  -- what is refused with 9 is refused so either way ..
  nine-to : (p : Place A) (s : S L) → step A p s ≡ refuse 9 → step B p s ≡ refuse 9
  nine-to p s e = go (asked A p s)
    where
      go : (step A p s ≡ step B p s) ⊎ ((step A p s ≡ refuse 25) × (q : Place A) × (step B p s ≡ next q)) → step B p s ≡ refuse 9
      go (inl i) = sym i ∙ e
      go (inr x) = absurd (let i : ◌≡◌ {A = Out (Place A)} (refuse 25) (refuse 9) = sym x.0 ∙ e in let z : ◌≡◌ {A = ℕ} 25 9 = cc in omega (arith, z))

  nine-back : (p : Place A) (s : S L) → step B p s ≡ refuse 9 → step A p s ≡ refuse 9
  nine-back p s e = go (asked A p s)
    where
      go : (step A p s ≡ step B p s) ⊎ ((step A p s ≡ refuse 25) × (q : Place A) × (step B p s ≡ next q)) → step A p s ≡ refuse 9
      go (inl i) = i ∙ e
      go (inr x) = refused (sym e ∙ x.2)

  -- .. and what is refused with 25 is taken where no option has to be given
  missing-to : (p : Place A) (k : Kind) (v : Pay k) → stands A p k ≡ none → step A p (say L k v) ≡ refuse 25 → (q : Place A) × (step B p (say L k v) ≡ next q)
  missing-to p k v h e = go (asked A p (say L k v))
    where
      go : (step A p (say L k v) ≡ step B p (say L k v)) ⊎ ((step A p (say L k v) ≡ refuse 25) × (q : Place A) × (step B p (say L k v) ≡ next q)) → (q : Place A) × (step B p (say L k v) ≡ next q)
      go (inl i) = absurd (let z = lenient-nine A p k v 25 h (sym i ∙ e) in omega arith)
      go (inr x) = (x.1, x.2)

  missing-back : (p q : Place A) (s : S L) → step B p s ≡ next q → ((m : Place A) → step A p s ≡ next m → ⊥) → step A p s ≡ refuse 25
  missing-back p q s e n = go (asked A p s)
    where
      go : (step A p s ≡ step B p s) ⊎ ((step A p s ≡ refuse 25) × (q : Place A) × (step B p s ≡ next q)) → step A p s ≡ refuse 25
      go (inl i) = absurd (n q (i ∙ e))
      go (inr x) = x.0

  -- ## Behind statements that lead to a place
  module _ (said : List (S L)) (p : Place A) (came : Came A X Line-of Said Spells first N said p) (line : Bytes) where
    abbrev front : List Line
    front = laws Line-of said

    came-lenient : Came B X Line-of Loose Spells first M said p
    came-lenient = run-lenient A (at A first) p said came

    may-to : {f : Field} {fs : List Field} {k : Kind} → MayStand A X Line-of p 0 line k f fs → MayStand B X Line-of p 0 line k f fs
    may-to {f = f} {k = k} h = record { fields = h.fields; is = kind-same A X p f ∙ h.is; here = stands-lenient A p k ∙ h.here }

    may-back : {f : Field} {fs : List Field} {k : Kind} → MayStand B X Line-of p 0 line k f fs → MayStand A X Line-of p 0 line k f fs
    may-back {f = f} {k = k} h = record { fields = h.fields; is = sym (kind-same A X p f) ∙ h.is; here = sym (stands-lenient A p k) ∙ h.here }

    -- 2 to 9 are told as if no option had to be given
    from-lenient : (n : ℕ) → Fault B X Line-of p 0 line n → Law.Fault (reading (law_of ed)) Spells front line n
    from-lenient = Lenient.fault-to A X Line-of Loose Spells first M said p came-lenient line

    pub fault-to : (n : ℕ) → Fault A X Line-of p 0 line n → Law.Fault (reading (law_of ed)) Spells front line n
    fault-to n (form e h) = from-lenient n (form e h)
    fault-to n (unknown {f = f} h e) = from-lenient n (unknown h (kind-same A X p f ∙ e))
    fault-to n (misplaced {f = f} {k = k} h e s) = from-lenient n (misplaced h (kind-same A X p f ∙ e) (stands-lenient A p k ∙ s))
    fault-to n (given_again {f = f} {k = k} h e s) = from-lenient n (given_again h (kind-same A X p f ∙ e) (stands-lenient A p k ∙ s))
    fault-to n (miscounted h c) = from-lenient n (miscounted (may-to h) c)
    fault-to n (misspelt h c m) = from-lenient n (misspelt (may-to h) c m)
    fault-to n (forbidden {k = k} h v s e) = from-lenient n (forbidden (may-to h) v s (nine-to p (say L k v) e))
    fault-to n (unmarked {f = f} {fs = fs} {k = k} h v s e) =
        let x = missing-to p k v h.here e in
        Law.fields h.fields.ended h.fields.fields (Law.unmarked (law (say L k v)) (fields-to ed (f ∷ fs) (Line-of k v) (N.all k v) s) (line-to B X Line-of Loose Spells first M said p x.0 (say L k v) came-lenient x.1) λ b.
        let y = line-back A X Line-of Said Spells first N said p (law (say L k v)) came b in
        refused (sym e ∙ ap (step A p) (N.one (say L k v) y.0 y.2) ∙ y.3))

    to-strict : (n : ℕ) → Fault B X Line-of p 0 line n → Fault A X Line-of p 0 line n
    to-strict n (form e h) = form e h
    to-strict n (unknown {f = f} h e) = unknown h (sym (kind-same A X p f) ∙ e)
    to-strict n (misplaced {f = f} {k = k} h e s) = misplaced h (sym (kind-same A X p f) ∙ e) (sym (stands-lenient A p k) ∙ s)
    to-strict n (given_again {f = f} {k = k} h e s) = given_again h (sym (kind-same A X p f) ∙ e) (sym (stands-lenient A p k) ∙ s)
    to-strict n (miscounted h c) = miscounted (may-back h) c
    to-strict n (misspelt h c m) = misspelt (may-back h) c m
    to-strict n (forbidden {k = k} h v s e) = forbidden (may-back h) v s (nine-back p (say L k v) e)
    to-strict n (unmarked {k = k} h v s e) = absurd (let z = lenient-nine A p k v 25 (may-back h).here e in omega arith)

    -- a line that the law lets stand but for the missing checkpoint
    bare : (n : ℕ) → Bare ed Spells front line n → Fault A X Line-of p 0 line n
    bare n b =
        let x = line-back B X Line-of Loose Spells first M said p b.says came-lenient b.follows in
        let s = x.0 in
        let spelled = fields_back ed (b.f ∷ b.fs) (Line-of s.kind s.val) (N.all s.kind s.val) (subst (SpellFields (law_of ed) (b.f ∷ b.fs)) x.2 b.spelled) in
        let here = stands-all B p s.kind s.val x.1 x.3 in
        let is = opens-kind B X Line-of Loose Spells first M p b.f s.kind s.val here (spelled-opens B X Line-of Loose Spells first M b.f b.fs s.kind s.val spelled) in
        let e = missing-back p x.1 s x.3 (λ m t. b.unmarked (subst (λ (l : Line). Law.Begins (reading (law_of ed)) Spells (front ++ (l ∷ []))) (sym x.2) (line-to A X Line-of Said Spells first N said p m s came t))) in
        subst (Fault A X Line-of p 0 line) (sym b.is) (unmarked (may-back (record { fields = b.fielded; is = is; here = here })) s.val spelled e)

    pub fault-back : (n : ℕ) → Law.Fault (reading (law_of ed)) Spells front line n → Fault A X Line-of p 0 line n
    fault-back n h = go (Lenient.fault-back A X Line-of Loose Spells first M said p came-lenient line n h)
      where
        go : Fault B X Line-of p 0 line n ⊎ Bare ed Spells front line n → Fault A X Line-of p 0 line n
        go (inl f) = to-strict n f
        go (inr b) = bare n b
