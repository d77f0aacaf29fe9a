-- Options in any order: what a part has of each kind, and the row of the machine, are one. Proved once, for all parts. Assumes nothing.
use mathlib.Core.Path.{◌≡◌, refl, sym, ap, ap₂, subst, ◌∙◌}
use mathlib.Core.List.{List, [], ◌∷◌, map}
use mathlib.Core.Option.{Option, none, some, some-injective}
use mathlib.Core.Bool.{Bool, true, false, ◌&&◌}
use mathlib.Core.Logic.{◌⊎◌, inl, inr}
use Prim.Native.Nat.{ℕ, suc, ◌+◌, ◌≤◌}
use native.Mathlib.Omega.{arith}
use lib.Dec.{T}
use lib.Ieee.Fits.{and_l, and_r}
use lib.ListN.{length}
use Rattle.terms.specs.Words.{Each, Among, perhaps}
use Rattle.grammar.specs.Language.{Lang, S, as_dec, as_kind, all_of}
use Rattle.grammar.specs.Machine.{Opt, lacks, distinct}
use Rattle.grammar.specs.Forms.{Form, tested}
use Rattle.grammar.specs.Choices.{Choice, opts}
use Rattle.grammar.proofs.LanguageLaws.{as_same, as-inv, memb, kinds-on, Allowed, Fine, all-some, all_none}
use Rattle.grammar.proofs.MachineLaws.{none_of, elsewhere, passes-by, same_kind}
use Rattle.grammar.proofs.FormLaws.{pass, pick}

-- what a part has of an option: at most one, or any number
abbrev pub Held : Bool → Type 0 → Type 0
Held true C = Option C
Held false C = List C

abbrev pub listed : {C : Type 0} (b : Bool) → Held b C → List C
listed true h = perhaps h
listed false h = h

abbrev pub top : {C : Type 0} → List C → Option C
top [] = none
top (c ∷ l) = some c

abbrev pub hold : {C : Type 0} (b : Bool) → List C → Held b C
hold true l = top l
hold false l = l

hold-listed : (C : Type 0) (b : Bool) (h : Held b C) → hold b (listed {C = C} b h) ≡ h
hold-listed C true none = refl
hold-listed C true (some c) = refl
hold-listed C false h = refl

short : {C : Type 0} (l : List C) → length l ≤ 1 → perhaps (top l) ≡ l
short [] h = refl
short (c ∷ []) h = refl
short (c ∷ (d ∷ l)) h = absurd (omega arith)

module _ (L : Lang) where
  open L use {Kind, Pay, disc}

  abbrev Ch : Type 1
  Ch = Choice Kind Pay

  abbrev pub kinds : List (Choice Kind Pay) → List Kind
  kinds [] = []
  kinds (o ∷ row) = o.on ∷ kinds row

  abbrev pub Holds : List (Choice Kind Pay) → Type 0
  Holds [] = Unit {0}
  Holds (o ∷ row) = Held o.once o.form.C × Holds row

  -- the statements of each kind, in their order, are what the part has of that kind, and are permitted
  abbrev pub Has : (row : List (Choice Kind Pay)) → Holds row → List (S L) → Type 0
  Has [] h os = Unit {0}
  Has (o ∷ row) h os = (all_of L o.on os ≡ map o.form.line (listed o.once h.0)) × Each o.form.Good (listed o.once h.0) × Has row h.1 os

  -- and nothing else stands among them
  abbrev pub Given : (row : List (Choice Kind Pay)) → Holds row → List (S L) → Type 0
  Given row h os = Has row h os × Each (λ s. Among s.kind (kinds row)) os

  -- ## From a row with what came before
  abbrev came : Bool → ℕ
  came true = 1
  came false = 0

  -- one option, over some statements, after statements of the kinds `before`
  record Kept (o : Opt Kind Pay) (before : List Kind) (os : List (S L)) : Type 0 where
    passing : Each (λ v. T (o.test v)) (all_of L o.on os)
    single : T o.once → came (memb L o.on before) + length (all_of L o.on os) ≤ 1

  abbrev Every : (Opt Kind Pay → Type 0) → List (Opt Kind Pay) → Type 0
  Every P [] = Unit {0}
  Every P (o ∷ row) = P o × Every P row

  both : {P Q R : Opt Kind Pay → Type 0} → ((o : Opt Kind Pay) → P o → Q o → R o) → (row : List (Opt Kind Pay)) → Every P row → Every Q row → Every R row
  both f [] p q = tt
  both f (o ∷ row) p q = (f o p.0 q.0, both f row p.1 q.1)

  -- a statement is right for an option
  abbrev Right : S L → List Kind → Opt Kind Pay → Type 0
  Right s before o = (v : Pay o.on) → as_kind L o.on s ≡ some v → T (o.test v) × (o.once && memb L o.on before ≡ false)

  none_right : (s : S L) (before : List Kind) (o : Opt Kind Pay) → as_kind L o.on s ≡ none → Right s before o
  none_right s before o e v q = absurd (let z : ◌≡◌ {A = Bool} true false = cc in subst T z tt)

  others : (k : Kind) (s : S L) (before : List Kind) (row : List (Opt Kind Pay)) → s.kind ≡ k → T (lacks L k row) → Every (Right s before) row
  others k s before [] e t = tt
  others k s before (o ∷ row) e t = go (disc k o.on) t (others k s before row e)
    where
      go : (d : Dec (k ≡ o.on)) → T (elim d [ yes e ↦ false | no n ↦ lacks L k row ]) → (T (lacks L k row) → Every (Right s before) row) → Every (Right s before) (o ∷ row)
      go (yes q) t ih = absurd t
      go (no n) t ih = (none_right s before o (none_of L o.on s (λ q. n (sym e ∙ q))), ih t)

  allowed-right : (row : List (Opt Kind Pay)) (before : List Kind) (s : S L) → T (distinct L row) → Allowed L row before s → Every (Right s before) row
  allowed-right [] before s t a = tt
  allowed-right (o ∷ row) before s t (inl a) = (
    λ v q. let e : a.0 ≡ v = some-injective a.0 v (sym (as_same L o.on a.0) ∙ ap (as_kind L o.on) (sym a.1) ∙ q) in (subst (λ (v : Pay o.on). T (o.test v)) e a.2, a.3),
    others o.on s before row (ap (λ (s : S L). s.kind) a.1) (and_l (lacks L o.on row) (distinct L row) t),
  )
  allowed-right (o ∷ row) before s t (inr a) =
      (none_right s before o (elsewhere L o.on row before s (and_l (lacks L o.on row) (distinct L row) t) a), allowed-right row before s (and_r (lacks L o.on row) (distinct L row) t) a)

  not-before : (a b : Bool) → T a → a && b ≡ false → came b ≡ 0
  not-before true true t e = absurd (let z : ◌≡◌ {A = Bool} true false = cc in subst T z tt)
  not-before true false t e = refl
  not-before false b t e = absurd t

  back_one : (before : List Kind) (s : S L) (os : List (S L)) (o : Opt Kind Pay) → Right s before o → Kept o (s.kind ∷ before) os → Kept o before (s ∷ os)
  back_one before s os o r k = go (as_kind L o.on s) refl
    where
      go : (x : Option (Pay o.on)) → as_kind L o.on s ≡ x → Kept o before (s ∷ os)
      go (some v) q =
          let y = r v q in
          let m : memb L o.on (s.kind ∷ before) ≡ true = rw (ap (λ (s : S L). s.kind) (as-inv L o.on s v q)) (same_kind L o.on before) in
          let a = all-some L o.on s os v q in
          record {
            passing = rw a (y.0, k.passing);
            single = λ t. let i = rw m at (k.single t) in let j = not-before o.once (memb L o.on before) t y.1 in rw (a, j) (omega arith);
          }
      go none q = let a = all_none L o.on s os q in record { passing = rw a k.passing; single = λ t. rw a (rw (passes-by L o.on s before q) at (k.single t)) }

  fine-kept : (row : List (Opt Kind Pay)) (before : List Kind) (os : List (S L)) → T (distinct L row) → Fine L row before os → Every (λ o. Kept o before os) row
  fine-kept row before [] t f = start row
    where
      start : (row : List (Opt Kind Pay)) → Every (λ o. Kept o before []) row
      start [] = tt
      start (o ∷ row) = (record { passing = tt; single = λ t. one (memb L o.on before) }, start row)
        where
          one : (b : Bool) → came b + 0 ≤ 1
          one true = omega arith
          one false = omega arith
  fine-kept row before (s ∷ os) t f = both (back_one before s os) row (allowed-right row before s t f.0) (fine-kept row (s.kind ∷ before) os t f.1)

  fine-among : (row : List (Opt Kind Pay)) (before : List Kind) (s : S L) (ks : List Kind) → Every (λ o. Among o.on ks) row → Allowed L row before s → Among s.kind ks
  fine-among [] before s ks e a = absurd a
  fine-among (o ∷ row) before s ks e (inl a) = rw (ap (λ (s : S L). s.kind) a.1) e.0
  fine-among (o ∷ row) before s ks e (inr a) = fine-among row before s ks e.1 a

  -- ## Back to it
  fore_one : (before : List Kind) (s : S L) (os : List (S L)) (o : Opt Kind Pay) → Kept o before (s ∷ os) → Kept o (s.kind ∷ before) os
  fore_one before s os o k = go (as_kind L o.on s) refl
    where
      go : (x : Option (Pay o.on)) → as_kind L o.on s ≡ x → Kept o (s.kind ∷ before) os
      go (some v) q =
          let m : memb L o.on (s.kind ∷ before) ≡ true = rw (ap (λ (s : S L). s.kind) (as-inv L o.on s v q)) (same_kind L o.on before) in
          let a = all-some L o.on s os v q in
          let p = rw a at k.passing in
          record { passing = p.1; single = λ t. let i = rw a at (k.single t) in rw m (omega arith) }
      go none q = let a = all_none L o.on s os q in record { passing = rw a at k.passing; single = λ t. rw (passes-by L o.on s before q) (rw a at (k.single t)) }

  first-once : (a b : Bool) (n : ℕ) → (T a → came b + suc n ≤ 1) → a && b ≡ false
  first-once true true n h = absurd (let i = h tt in omega arith)
  first-once true false n h = refl
  first-once false b n h = refl

  of_kind_of : (k : Kind) (s : S L) → s.kind ≡ k → (v : Pay k) × (as_kind L k s ≡ some v)
  of_kind_of k s e = go (disc s.kind k)
    where
      go : (d : Dec (s.kind ≡ k)) → (v : Pay k) × (as_dec L k s.kind d s.val ≡ some v)
      go (yes e) = (subst Pay e s.val, refl)
      go (no n) = absurd (n e)

  kept-allowed : (row : List Ch) (before : List Kind) (s : S L) (os : List (S L)) → Every (λ o. Kept o before (s ∷ os)) (opts L row) → Among s.kind (kinds row) → Allowed L (opts L row) before s
  kept-allowed [] before s os k a = absurd a
  kept-allowed (o ∷ row) before s os k (inl e) =
      let x = of_kind_of o.on s e in
      let a = all-some L o.on s os x.0 x.1 in
      let p = rw a at k.0.passing in
      inl (x.0, as-inv L o.on s x.0 x.1, p.0, first-once o.once (memb L o.on before) (length (all_of L o.on os)) (λ t. rw a at (k.0.single t)))
  kept-allowed (o ∷ row) before s os k (inr a) = inr (kept-allowed row before s os k.1 a)

  each : {P Q : Opt Kind Pay → Type 0} → ((o : Opt Kind Pay) → P o → Q o) → (row : List (Opt Kind Pay)) → Every P row → Every Q row
  each f [] p = tt
  each f (o ∷ row) p = (f o p.0, each f row p.1)

  kept_fine : (row : List Ch) (before : List Kind) (os : List (S L)) → Every (λ o. Kept o before os) (opts L row) → Each (λ s. Among s.kind (kinds row)) os → Fine L (opts L row) before os
  kept_fine row before [] k a = tt
  kept_fine row before (s ∷ os) k a = (kept-allowed row before s os k a.0, kept_fine row (s.kind ∷ before) os (each (fore_one before s os) (opts L row) k) a.1)

  -- ## A kind came if and only if something of it was said
  memb-on : (k : Kind) (os : List (S L)) (before : List Kind) → memb L k before ≡ true → memb L k (kinds-on L os before) ≡ true
  memb-on k [] before e = e
  memb-on k (s ∷ os) before e = memb-on k os (s.kind ∷ before) (go (disc s.kind k))
    where
      go : (d : Dec (s.kind ≡ k)) → elim d as (λ x. Bool) [ yes e ↦ true | no n ↦ memb L k before ] ≡ true
      go (yes q) = refl
      go (no n) = e

  pub all-memb : (k : Kind) (os : List (S L)) (before : List Kind) → 1 ≤ length (all_of L k os) → memb L k (kinds-on L os before) ≡ true
  all-memb k [] before h = absurd (omega arith)
  all-memb k (s ∷ os) before h = go (as_kind L k s) refl (all-memb k os (s.kind ∷ before))
    where
      go : (x : Option (Pay k)) → as_kind L k s ≡ x → (1 ≤ length (all_of L k os) → memb L k (kinds-on L os (s.kind ∷ before)) ≡ true) → memb L k (kinds-on L os (s.kind ∷ before)) ≡ true
      go (some v) q ih = memb-on k os (s.kind ∷ before) (rw (ap (λ (s : S L). s.kind) (as-inv L k s v q)) (same_kind L k before))
      go none q ih = ih (rw (all_none L k s os q) at h)

  pub memb-all : (k : Kind) (os : List (S L)) (before : List Kind) → memb L k (kinds-on L os before) ≡ true → (memb L k before ≡ true) ⊎ (1 ≤ length (all_of L k os))
  memb-all k [] before e = inl e
  memb-all k (s ∷ os) before e = go (as_kind L k s) refl (memb-all k os (s.kind ∷ before) e)
    where
      go : (x : Option (Pay k)) → as_kind L k s ≡ x → (memb L k (s.kind ∷ before) ≡ true) ⊎ (1 ≤ length (all_of L k os)) → (memb L k before ≡ true) ⊎ (1 ≤ length (all_of L k (s ∷ os)))
      go (some v) q h = inr (rw (all-some L k s os v q) (omega arith))
      go none q (inl h) = inl (sym (passes-by L k s before q) ∙ h)
      go none q (inr h) = inr (rw (all_none L k s os q) h)

  -- ## What is held
  module _ {P : Type 0} (F : Form P) where
    written : (cs : List F.C) → Each F.Good cs → Each (λ v. T (tested F v)) (map F.line cs)
    written [] g = tt
    written (c ∷ cs) g = (pass F c g.0, written cs g.1)

    taken : (vs : List P) → Each (λ v. T (tested F v)) vs → (vs ≡ map F.line (map F.back vs)) × Each F.Good (map F.back vs)
    taken [] t = (refl, tt)
    taken (v ∷ vs) t = let x = pick F v t.0 in let y = taken vs t.1 in (ap₂ (λ (v : P) (l : List P). v ∷ l) (sym x.0) y.0, (x.1, y.1))

    returned : (cs : List F.C) → map F.back (map F.line cs) ≡ cs
    returned [] = refl
    returned (c ∷ cs) = ap₂ (λ (c : F.C) (l : List F.C). c ∷ l) (F.same c) (returned cs)

  length-line : {A B : Type 0} (f : A → B) (l : List A) → length (map f l) ≡ length l
  length-line f [] = refl
  length-line f (a ∷ l) = ap suc (length-line f l)

  at_most : (C : Type 0) (b : Bool) (h : Held b C) → T b → length (listed {C = C} b h) ≤ 1
  at_most C true none t = omega arith
  at_most C true (some c) t = omega arith
  at_most C false h t = absurd t

  held : {C : Type 0} (b : Bool) (l : List C) → (T b → length l ≤ 1) → listed b (hold b l) ≡ l
  held true l h = short l (h tt)
  held false l h = refl

  has_kept : (row : List Ch) (h : Holds row) (os : List (S L)) → Has row h os → Every (λ o. Kept o [] os) (opts L row)
  has_kept [] h os x = tt
  has_kept (o ∷ row) h os x = (
    record {
      passing = rw x.0 (written o.form (listed o.once h.0) x.1);
      single = λ t. let i = at_most o.form.C o.once h.0 t in rw (x.0, length-line o.form.line (listed o.once h.0)) (omega arith);
    },
    has_kept row h.1 os x.2,
  )

  kept-has : (row : List Ch) (os : List (S L)) → Every (λ o. Kept o [] os) (opts L row) → (h : Holds row) × Has row h os
  kept-has [] os k = (tt, tt)
  kept-has (o ∷ row) os k =
      let y = kept-has row os k.1 in
      let vs = all_of L o.on os in
      let x = taken o.form vs k.0.passing in
      let cs = map o.form.back vs in
      let e : listed o.once (hold o.once cs) ≡ cs = held o.once cs (λ t. let i = k.0.single t in rw (length-line o.form.back vs) (omega arith)) in
      ((hold o.once cs, y.0), (x.0 ∙ ap (map o.form.line) (sym e), rw e x.1, y.1))

  has_same : (row : List Ch) (h h' : Holds row) (os : List (S L)) → Has row h os → Has row h' os → h ≡ h'
  has_same [] h h' os x y = refl
  has_same (o ∷ row) h h' os x y =
      let F = o.form in
      let e : listed o.once h.0 ≡ listed o.once h'.0 = sym (returned F (listed o.once h.0)) ∙ ap (map F.back) (sym x.0 ∙ y.0) ∙ returned F (listed o.once h'.0) in
      let i : h.0 ≡ h'.0 = sym (hold-listed F.C o.once h.0) ∙ ap (hold o.once) e ∙ hold-listed F.C o.once h'.0 in
      let j = has_same row h.1 h'.1 os x.2 y.2 in
      λ k. (i k, j k)

  among-all : (row : List Ch) → (ks : List Kind) → ((k : Kind) → Among k (kinds row) → Among k ks) → Every (λ o. Among o.on ks) (opts L row)
  among-all [] ks f = tt
  among-all (o ∷ row) ks f = (f o.on (inl refl), among-all row ks (λ k a. f k (inr a)))

  fine-only : (row : List Ch) (before : List Kind) (os : List (S L)) → Fine L (opts L row) before os → Each (λ s. Among s.kind (kinds row)) os
  fine-only row before [] f = tt
  fine-only row before (s ∷ os) f = (fine-among (opts L row) before s (kinds row) (among-all row (kinds row) (λ k a. a)) f.0, fine-only row (s.kind ∷ before) os f.1)

  -- ## The two are one
  pub given-fine : (row : List (Choice Kind Pay)) (h : Holds row) (os : List (S L)) → Given row h os → Fine L (opts L row) [] os
  given-fine row h os g = kept_fine row [] os (has_kept row h os g.0) g.1

  pub fine-given : (row : List (Choice Kind Pay)) (os : List (S L)) → T (distinct L (opts L row)) → Fine L (opts L row) [] os → (h : Holds row) × Given row h os
  fine-given row os t f = let x = kept-has row os (fine-kept (opts L row) [] os t f) in (x.0, (x.1, fine-only row [] os f))

  pub given-same : (row : List (Choice Kind Pay)) (h h' : Holds row) (os : List (S L)) → Given row h os → Given row h' os → h ≡ h'
  given-same row h h' os x y = has_same row h h' os x.0 y.0
