-- A line has a fault of 2 to 9 at a place, where no option has to be given, if and only if, for the law, it has that fault behind lines that lead to the place. For every file. Assumes nothing.
use mathlib.Core.Path.{◌≡◌, refl, sym, ap, subst, ◌∙◌}
use mathlib.Core.List.{List, [], ◌∷◌, ◌++◌, map, head-eq_of_cons-eq}
use mathlib.Core.Option.{Option, none, some}
use mathlib.Core.Logic.{◌⊎◌, inl, inr}
use Prim.Native.Nat.{ℕ}
use native.Mathlib.Omega.{arith}
use lib.ListN.{length}
use Rattle.terms.specs.Ascii.{Bytes}
use Rattle.terms.specs.Words.{Each}
use Rattle.terms.proofs.Tests.{nothing}
use Rattle.line.specs.Content.{Field}
use Rattle.grammar.specs.Editions.{Edition, law_of}
use Rattle.grammar.specs.Language.{Lang, S, say}
use Rattle.grammar.specs.Machine.{Out, next, refuse, Machine, Place, at, step}
use Rattle.grammar.specs.Machine as Machine
use Rattle.grammar.specs.Stands.{stands}
use Rattle.grammar.proofs.Keeping.{GoodPlace, GoodOut, run-good}
use Rattle.grammar.proofs.MachineLaws.{refused}
use Rattle.grammar.proofs.StandLaws.{stands-all, stands-lenient, lenient-nine}
use Rattle.text.specs.Said as Said
use Rattle.text.specs.Judge.{Lexis, kind_at}
use Rattle.text.specs.Faults.{Fielded, unknown}
use Rattle.text.specs.Faults as Old
use Rattle.text.proofs.Telling.{Lawful}
use Rattle.text.proofs.FaultLaws.{five-or-six}
use Rattle.law.specs.Network.{Line, SpellFields, Rules, reading, lenient}
use Rattle.law.specs.Faults.{kind_of_field, Opens, IsOption, GivenBefore, FollowsStrictly, FollowsLeniently, MayStand, NothingMayStand, FieldFault, Fault, form, fields, misplaced, given_again, miscounted, misspelt, forbidden, unmarked}
use Rattle.law_spelling.specs.LineOf.{law_line}
use Rattle.law_spelling.proofs.Fields.{fields-to, fields_back}
use Rattle.law_faults.proofs.Sorts.{of_kind_of, kind-sorts, count-to, count-back}
use Rattle.law_faults.proofs.Needs.{Values, Needs}
use Rattle.law_faults.proofs.Reached.{laws, split, cons-nil, Came, line-to, line-back}
use Rattle.law_faults.proofs.Opening.{word-kind, kind-opens, word-opens, opens-kind, some-value}
use Rattle.law_faults.proofs.Misspelt.{none-spelled, misread, first-misspelt}
use Rattle.law_faults.proofs.Again.{given-before, stood-before}

-- the same kind, and one answer
pub one-kind : {K : Type 0} {o : Option K} {j k : K} → o ≡ some j → o ≡ some k → j ≡ k
one-kind {o = o} {j = j} {k = k} e f = let h : some j ≡ some k = sym e ∙ f in cc

-- 25 is not told here: what the law says of it
pub record Bare (ed : Edition) {Net : Type 0} (Spells : Rules → Net → List Line → Type 0) (front : List Line) (line : Bytes) (n : ℕ) : Type 0 where
  pub is : n ≡ 25
  pub f : Field
  pub fs : List Field
  pub fielded : Fielded 0 line f fs
  pub says : Line
  pub spelled : SpellFields (law_of ed) (f ∷ fs) says
  pub follows : FollowsLeniently (reading (law_of ed)) Spells front says
  pub unmarked : FollowsStrictly (reading (law_of ed)) Spells front says → ⊥

module _ {ed : Edition} {L : Lang} (strict : Machine L) (X : Lexis L) (Line-of : (k : L.Kind) → L.Pay k → List Said.Said) {Net : Type 0} (Said : Net → List (S L) → Type 0) (Spells : Rules → Net → List Line → Type 0) (first : strict.Base) (N : Needs ed (lenient (reading (law_of ed))) (Machine.lenient strict) X Line-of Said Spells first) where
  open L use {Kind, Pay}

  abbrev A : Machine L
  A = Machine.lenient strict

  abbrev W : Lawful A X Line-of
  W = N.file.lawful

  abbrev law : S L → Line
  law = law_line Line-of

  -- behind statements that lead to a place
  module _ (said : List (S L)) (p : Place A) (came : Came A X Line-of Said Spells first N said p) where
    abbrev front : List Line
    front = laws Line-of said

    values-at : GoodPlace A (Values A) p
    values-at = subst (GoodOut A (Values A)) came (run-good A (Values A) (λ b y. N.values_after b) (at A first) said N.values_first)

    good-at : GoodPlace A N.file.Good p
    good-at = subst (GoodOut A N.file.Good) came (run-good A N.file.Good N.file.keeps (at A first) said N.file.good_first)

    module _ (f : Field) where
      -- ## A line that may stand
      pub may-to : (k : Kind) → kind_at A X p f ≡ some k → stands A p k ≡ none → (v : Pay k) × MayStand (reading (law_of ed)) Spells front f (law (say L k v))
      may-to k e s =
          let x = some-value A X Line-of Said Spells first N (λ b g. tt) p values-at good-at k s in
          (x.0, (kind-opens A X Line-of Said Spells first N p f k x.0 e, line-to A X Line-of Said Spells first N said p x.1 (say L k x.0) came x.2))

      pub record Stands (line : Line) : Type 0 where
        pub k : Kind
        pub v : Pay k
        pub is : line ≡ law (say L k v)
        pub made-out : kind_at A X p f ≡ some k
        pub here : stands A p k ≡ none

      pub may-back : (line : Line) → MayStand (reading (law_of ed)) Spells front f line → Stands line
      may-back line m =
          let x = line-back A X Line-of Said Spells first N said p line came m.1 in
          let s = x.0 in
          let h = stands-all A p s.kind s.val x.1 x.3 in
          record { k = s.kind; v = s.val; is = x.2; made-out = opens-kind A X Line-of Said Spells first N p f s.kind s.val h (subst (Opens f) x.2 m.0); here = h }

      -- no line may stand where no kind is made out, or one that may not
      none-may : kind_at A X p f ≡ none → NothingMayStand (reading (law_of ed)) Spells front f
      none-may e line m = let x = may-back line m in nothing (sym e ∙ x.made-out)

      not-may : (k : Kind) (n : ℕ) → kind_at A X p f ≡ some k → stands A p k ≡ some n → NothingMayStand (reading (law_of ed)) Spells front f
      not-may k n e s line m =
          let x = may-back line m in
          nothing (sym x.here ∙ ap (stands A p) (one-kind x.made-out e) ∙ s)

      -- ## An option that was given
      again-to : (k : Kind) → kind_at A X p f ≡ some k → stands A p k ≡ some 6 → GivenBefore front f
      again-to k e s =
          let x = given-before A X Line-of Said Spells first N said p k came s in
          (laws Line-of x.earlier, law x.here, laws Line-of x.since, x.was, kind-opens A X Line-of Said Spells first N p f x.here.kind x.here.val (e ∙ ap some (sym x.of)), x.only)

      again-back : NothingMayStand (reading (law_of ed)) Spells front f → GivenBefore front f → (k : Kind) × (kind_at A X p f ≡ some k) × (stands A p k ≡ some 6)
      again-back none-stands g = go (split Line-of g.0 (g.1 ∷ g.2) said (sym g.3))
        where
          settled : (s : S L) → kind_at A X p f ≡ some s.kind → (stands A p s.kind ≡ none) ⊎ (stands A p s.kind ≡ some 6) → (k : Kind) × (kind_at A X p f ≡ some k) × (stands A p k ≡ some 6)
          settled s e (inl h) = let x = may-to s.kind e h in absurd (none-stands (law (say L s.kind x.0)) x.1)
          settled s e (inr h) = (s.kind, e, h)

          here : (a : List (S L)) (s : S L) (b : List (S L)) → said ≡ a ++ (s ∷ b) → g.1 ∷ g.2 ≡ law s ∷ laws Line-of b → (k : Kind) × (kind_at A X p f ≡ some k) × (stands A p k ≡ some 6)
          here a s b e q =
              let o : Each IsOption (law s ∷ laws Line-of b) = subst (Each IsOption) q g.5 in
              let h : g.1 ≡ law s = head-eq_of_cons-eq q in
              let w = word-kind A X Line-of Said Spells first N s.kind s.val o.0.0 o.0.1 o.0.2 in
              settled s (word-opens A X Line-of Said Spells first N p f s.kind s.val o.0.0 w (subst (Opens f) h g.4))
              (stood-before A X Line-of Said Spells first N a s b p (subst (λ (l : List (S L)). Came A X Line-of Said Spells first N l p) e came) o)

          go : (a : List (S L)) × (b : List (S L)) × (said ≡ a ++ b) × (g.0 ≡ laws Line-of a) × (g.1 ∷ g.2 ≡ laws Line-of b) → (k : Kind) × (kind_at A X p f ≡ some k) × (stands A p k ≡ some 6)
          go (a, [], e, q, h) = cons-nil (sym h)
          go (a, s ∷ b, e, q, h) = here a s b e h

      none-again : kind_at A X p f ≡ none → GivenBefore front f → ⊥
      none-again e g = let x = again-back (none-may e) g in nothing (sym e ∙ x.1)

      not-again : (k : Kind) → kind_at A X p f ≡ some k → stands A p k ≡ some 5 → GivenBefore front f → ⊥
      not-again k e s g =
          let x = again-back (not-may k 5 e s) g in
          let z : ◌≡◌ {A = Option ℕ} (some 6) (some 5) = sym x.2 ∙ ap (stands A p) (one-kind x.1 e) ∙ s in
          let y : ◌≡◌ {A = ℕ} 6 5 = cc in omega arith

    -- ## A line at fault
    module _ (line : Bytes) where
      pub fault-to : (n : ℕ) → Old.Fault A X Line-of p 0 line n → Fault (reading (law_of ed)) Spells front line n
      fault-to n (Old.form e h) = form e h
      fault-to n (unknown {f = f} {fs = fs} h e) = fields h.ended h.fields (misplaced (none-may f e) (none-again f e))
      fault-to n (Old.misplaced {f = f} {k = k} h e s) = fields h.ended h.fields (misplaced (not-may f k 5 e s) (not-again f k e s))
      fault-to n (Old.given_again {f = f} {k = k} h e s) = fields h.ended h.fields (given_again (not-may f k 6 e s) (again-to f k e s))
      fault-to n (Old.miscounted {f = f} {fs = fs} {k = k} h c) =
          let x = may-to f k h.is h.here in
          fields h.fields.ended h.fields.fields (miscounted (law (say L k x.0)) x.1 (λ e. c (count-back A X Line-of W k x.0 f fs e)))
      fault-to n (Old.misspelt {f = f} {fs = fs} {k = k} h c m) =
          let x = may-to f k h.is h.here in
          let y = first-misspelt A X Line-of Said Spells first N p f fs k h.is x.0 c (misread A X Line-of Said Spells first N p f fs k h.is m) in
          fields h.fields.ended h.fields.fields (misspelt (law (say L k x.0)) y.0 x.1 (count-to A X Line-of W k x.0 f fs c) y.1)
      fault-to n (Old.forbidden {f = f} {fs = fs} {k = k} h v s e) =
          let x = may-to f k h.is h.here in
          fields h.fields.ended h.fields.fields (forbidden (law (say L k x.0)) (law (say L k v)) x.1 (kind-sorts A X Line-of W k v x.0) (fields-to ed (f ∷ fs) (Line-of k v) (N.all k v) s) λ b.
          let y = line-back A X Line-of Said Spells first N said p (law (say L k v)) came b in
          refused (sym e ∙ ap (step A p) (N.one (say L k v) y.0 y.2) ∙ y.3))
      fault-to n (Old.unmarked {k = k} h v s e) = absurd (let z = lenient-nine strict p k v 25 (sym (stands-lenient strict p k) ∙ h.here) e in omega arith)

      pub fault-back : (n : ℕ) → Fault (reading (law_of ed)) Spells front line n → Old.Fault A X Line-of p 0 line n ⊎ Bare ed Spells front line n
      fault-back n (form e h) = inl (Old.form e h)
      fault-back n (fields {content = c} {f = f} {fs = fs} e h b) = go n b
        where
          fielded : Fielded 0 line f fs
          fielded = record { content = c; ended = e; fields = h }

          may : {l : Line} (x : Stands f l) → Old.MayStand A X Line-of p 0 line x.k f fs
          may x = record { fields = fielded; is = x.made-out; here = x.here }

          misplaced-at : (k : Kind) → kind_at A X p f ≡ some k → (GivenBefore front f → ⊥) → (m : ℕ) → stands A p k ≡ some m → (m ≡ 5) ⊎ (m ≡ 6) → Old.Fault A X Line-of p 0 line 5
          misplaced-at k q again m s (inl i) = Old.misplaced fielded q (s ∙ ap some i)
          misplaced-at k q again m s (inr i) = absurd (again (again-to f k q (s ∙ ap some i)))

          unfit : NothingMayStand (reading (law_of ed)) Spells front f → (GivenBefore front f → ⊥) → (x : Option Kind) → kind_at A X p f ≡ x → Old.Fault A X Line-of p 0 line 5
          unfit none-stands again none q = unknown fielded q
          unfit none-stands again (some k) q = at-kind (stands A p k) refl
            where
              at-kind : (x : Option ℕ) → stands A p k ≡ x → Old.Fault A X Line-of p 0 line 5
              at-kind none s = let x = may-to f k q s in absurd (none-stands (law (say L k x.0)) x.1)
              at-kind (some m) s = misplaced-at k q again m s (five-or-six A X Line-of W p k m s)

          -- a value that no place takes gets 9
          nine : (k : Kind) (v : Pay k) → stands A p k ≡ none → ((q : Place A) → step A p (say L k v) ≡ next q → ⊥) → step A p (say L k v) ≡ refuse 9
          nine k v h none-taken = told (step A p (say L k v)) refl
            where
              told : (o : Out (Place A)) → step A p (say L k v) ≡ o → o ≡ refuse 9
              told (next q) t = absurd (none-taken q t)
              told (refuse c) t = ap refuse (lenient-nine strict p k v c (sym (stands-lenient strict p k) ∙ h) t)

          go : (n : ℕ) → FieldFault (reading (law_of ed)) Spells front f fs n → Old.Fault A X Line-of p 0 line n ⊎ Bare ed Spells front line n
          go n (misplaced m again) = inl (unfit m again (kind_at A X p f) refl)
          go n (given_again m g) = let x = again-back f m g in inl (Old.given_again fielded x.1 x.2)
          go n (miscounted l m c) =
              let x = may-back f l m in
              inl (Old.miscounted (may x) (λ q. c (count-to A X Line-of W x.k x.v f fs q ∙ ap length (sym x.is))))
          go n (misspelt l g m c s) =
              let x = may-back f l m in
              inl (Old.misspelt (may x) (count-back A X Line-of W x.k x.v f fs (c ∙ ap length x.is))
              (λ u t. none-spelled s (law (say L x.k u)) (kind-sorts A X Line-of W x.k u x.v ∙ ap (map kind_of_field) (sym x.is)) (fields-to ed (f ∷ fs) (Line-of x.k u) (N.all x.k u) t)))
          go n (forbidden l u m e s b) =
              let x = may-back f l m in
              let y = of_kind_of A X Line-of W x.k x.v u (e ∙ ap (map kind_of_field) x.is) in
              inl (Old.forbidden (may x) y.0 (fields_back ed (f ∷ fs) (Line-of x.k y.0) (N.all x.k y.0) (subst (SpellFields (law_of ed) (f ∷ fs)) y.1 s))
              (nine x.k y.0 x.here (λ q t. b (subst (λ (u : Line). FollowsLeniently (reading (law_of ed)) Spells front u) (sym y.1) (line-to A X Line-of Said Spells first N said p q (say L x.k y.0) came t)))))
          go n (unmarked l s t b) = inr (record { is = refl; f = f; fs = fs; fielded = fielded; says = l; spelled = s; follows = t; unmarked = b })
