-- What is proved of every machine: options in any order, one due statement, refusals, and that what is not refused can be finished. Assumes nothing.
use mathlib.Core.Path.{◌≡◌, refl, sym, ap, ap₂, subst, ◌∙◌}
use mathlib.Core.List.{List, [], ◌∷◌, ◌++◌, head-eq_of_cons-eq, tail-eq_of_cons-eq}
use mathlib.Core.Option.{Option, none, some, some-injective}
use mathlib.Core.Bool.{Bool, true, false, ◌&&◌, and-true, and-false}
use mathlib.Core.Logic.{inl, inr}
use Prim.Native.Nat.{ℕ, zero, suc, ◌<◌}
use native.Mathlib.Omega.{arith}
use lib.Dec.{T}
use lib.Ieee.Fits.{and_l, and_r}
use lib.Ieee.Bits.{is_true}
use Rattle.grammar.specs.Language.{Lang, S, say, as_dec, as_kind}
use Rattle.grammar.specs.Machine.{Out, next, refuse, Opt, Verdict, other, bad, good, judge, onto, lacks, distinct, take, opt_at, clear, Machine, over, inside, guard, and_then, Place, at, enter, hit, settle, step, run, Accepts}
use Rattle.grammar.proofs.Keeping.{GoodNext, GoodOut, run-good}
use Rattle.grammar.proofs.LanguageLaws.{as_same, as-inv, memb, kinds-on, Allowed, Fine}

module _ (L : Lang) where
  open L use {Kind, Pay, disc}

  -- the flags say what came before
  abbrev pub Agrees : List (Opt Kind Pay) → List Kind → List Bool → Type 0
  Agrees [] before g = Unit {0}
  Agrees (o ∷ row) before [] = ⊥
  Agrees (o ∷ row) before (f ∷ g) = (f ≡ (o.once && memb L o.on before)) × Agrees row before g

  pub clear-agrees : (row : List (Opt Kind Pay)) → Agrees row [] (clear L row)
  clear-agrees [] = tt
  clear-agrees (o ∷ row) = (sym (and-false o.once), clear-agrees row)

  later : (k : Kind) (row : List (Opt Kind Pay)) (before : List Kind) (g : List Bool) → T (lacks L k row) → Agrees row before g → Agrees row (k ∷ before) g
  later k [] before g t a = tt
  later k (o ∷ row) before [] t a = a
  later k (o ∷ row) before (f ∷ g) t a = go (disc k o.on) t (λ t. later k row before g t a.1)
    where
      go : (d : Dec (k ≡ o.on)) → T (elim d [ yes e ↦ false | no n ↦ lacks L k row ]) → (T (lacks L k row) → Agrees row (k ∷ before) g)
          → (f ≡ (o.once && (elim d as (λ x. Bool) [ yes e ↦ true | no n ↦ memb L o.on before ]))) × Agrees row (k ∷ before) g
      go (yes e) t ih = absurd t
      go (no n) t ih = (a.0, ih t)

  pub same_kind : (k : Kind) (before : List Kind) → memb L k (k ∷ before) ≡ true
  same_kind k before = go (disc k k)
    where
      go : (d : Dec (k ≡ k)) → elim d as (λ x. Bool) [ yes e ↦ true | no n ↦ memb L k before ] ≡ true
      go (yes e) = refl
      go (no n) = absurd (n refl)

  pub none_of : (k : Kind) (s : S L) → (s.kind ≡ k → ⊥) → as_kind L k s ≡ none
  none_of k s n = go (disc s.kind k)
    where
      go : (d : Dec (s.kind ≡ k)) → as_dec L k s.kind d s.val ≡ none
      go (yes e) = absurd (n e)
      go (no n) = refl

  pub passes-by : (k : Kind) (s : S L) (before : List Kind) → as_kind L k s ≡ none → memb L k (s.kind ∷ before) ≡ memb L k before
  passes-by k s before h = go (disc s.kind k) h
    where
      go : (d : Dec (s.kind ≡ k)) → as_dec L k s.kind d s.val ≡ none → elim d as (λ x. Bool) [ yes e ↦ true | no n ↦ memb L k before ] ≡ memb L k before
      go (yes e) h = absurd (let z : ◌≡◌ {A = Bool} true false = cc in subst T z tt)
      go (no n) h = refl

  -- what is allowed by a row is of none of the kinds that the row lacks L
  pub elsewhere : (k : Kind) (row : List (Opt Kind Pay)) (before : List Kind) (s : S L) → T (lacks L k row) → Allowed L row before s → as_kind L k s ≡ none
  elsewhere k [] before s t a = absurd a
  elsewhere k (o ∷ row) before s t a = go (disc k o.on) t a (elsewhere k row before s)
    where
      go : (d : Dec (k ≡ o.on)) → T (elim d [ yes e ↦ false | no n ↦ lacks L k row ]) → Allowed L (o ∷ row) before s → (T (lacks L k row) → Allowed L row before s → as_kind L k s ≡ none) → as_kind L k s ≡ none
      go (yes e) t a ih = absurd t
      go (no n) t (inl a) ih = none_of k s (λ q. n (sym q ∙ ap (λ (s : S L). s.kind) a.1))
      go (no n) t (inr a) ih = ih t a

  here : (o : Opt Kind Pay) (row : List (Opt Kind Pay)) (before : List Kind) (g : List Bool) (s : S L) → s.kind ≡ o.on → T (lacks L o.on row) → Agrees row before g → Agrees (o ∷ row) (s.kind ∷ before) (o.once ∷ g)
  here o row before g s e t y = rw e (rw (same_kind o.on before) (sym (and-true o.once)), later o.on row before g t y)

  there : (o : Opt Kind Pay) (before : List Kind) (f : Bool) (s : S L) → as_kind L o.on s ≡ none → f ≡ (o.once && memb L o.on before) → f ≡ (o.once && memb L o.on (s.kind ∷ before))
  there o before f s q y = rw (passes-by o.on s before q) y

  -- the row takes what is allowed, and only that
  pub takes : (row : List (Opt Kind Pay)) (before : List Kind) (g : List Bool) (s : S L) → T (distinct L row) → Agrees row before g → Allowed L row before s → (g' : List Bool) × (opt_at L row g s ≡ good g') × Agrees row (s.kind ∷ before) g'
  takes [] before g s t y a = absurd a
  takes (o ∷ row) before [] s t y a = absurd y
  takes (o ∷ row) before (f ∷ g) s t y (inl a) =
      let q : as_kind L o.on s ≡ some a.0 = ap (as_kind L o.on) a.1 ∙ as_same L o.on a.0 in
      let u : f ≡ false = y.0 ∙ a.3 in
      (o.once ∷ g, rw (q, u, and-false o.once, is_true (o.test a.0) a.2), here o row before g s (ap (λ (s : S L). s.kind) a.1) (and_l (lacks L o.on row) (distinct L row) t) y.1)
  takes (o ∷ row) before (f ∷ g) s t y (inr a) =
      let q = elsewhere o.on row before s (and_l (lacks L o.on row) (distinct L row) t) a in
      let x = takes row before g s (and_r (lacks L o.on row) (distinct L row) t) y.1 a in
      (f ∷ x.0, rw (q, x.1), (there o before f s q y.0, x.2))

  judged : (a b : Bool) (g g' : List Bool) → judge a b g ≡ good g' → (a ≡ false) × T b × (g ≡ g')
  judged true b g g' e = absurd (let z : ◌≡◌ {A = Bool} true false = cc in subst T z tt)
  judged false true g g' e = (refl, tt, cc)
  judged false false g g' e = absurd (let z : ◌≡◌ {A = Bool} true false = cc in subst T z tt)

  under : (f : Bool) (x : Verdict) (g' : List Bool) → onto f x ≡ good g' → (g : List Bool) × (x ≡ good g) × (g' ≡ f ∷ g)
  under f other g' e = absurd (let z : ◌≡◌ {A = Bool} true false = cc in subst T z tt)
  under f (bad c) g' e = absurd (let z : ◌≡◌ {A = Bool} true false = cc in subst T z tt)
  under f (good g) g' e = (g, refl, cc)

  twice : (a b : Bool) → (a && (a && b)) ≡ (a && b)
  twice true b = refl
  twice false b = refl

  pub told : (row : List (Opt Kind Pay)) (before : List Kind) (g g' : List Bool) (s : S L) → T (distinct L row) → Agrees row before g → opt_at L row g s ≡ good g' → Allowed L row before s × Agrees row (s.kind ∷ before) g'
  told [] before g g' s t y h = absurd (let z : ◌≡◌ {A = Bool} true false = cc in subst T z tt)
  told (o ∷ row) before [] g' s t y h = absurd y
  told (o ∷ row) before (f ∷ g) g' s t y h = go (as_kind L o.on s) refl h (λ g₀. told row before g g₀ s (and_r (lacks L o.on row) (distinct L row) t) y.1)
    where
      go : (x : Option (Pay o.on)) → as_kind L o.on s ≡ x → take L o f g x (opt_at L row g s) ≡ good g'
          → ((g₀ : List Bool) → opt_at L row g s ≡ good g₀ → Allowed L row before s × Agrees row (s.kind ∷ before) g₀) → Allowed L (o ∷ row) before s × Agrees (o ∷ row) (s.kind ∷ before) g'
      go (some v) q h ih =
          let j = judged (o.once && f) (o.test v) (o.once ∷ g) g' h in
          let e = as-inv L o.on s v q in
          let u : (o.once && memb L o.on before) ≡ false = sym (twice o.once (memb L o.on before)) ∙ ap (◌&&◌ o.once) (sym y.0) ∙ j.0 in
          (inl (v, e, j.1, u), subst (Agrees (o ∷ row) (s.kind ∷ before)) j.2 (here o row before g s (ap (λ (s : S L). s.kind) e) (and_l (lacks L o.on row) (distinct L row) t) y.1))
      go none q h ih =
          let x = under f (opt_at L row g s) g' h in
          let z = ih x.0 x.1 in
          (inr z.0, subst (Agrees (o ∷ row) (s.kind ∷ before)) (sym x.2) (there o before f s q y.0, z.1))

module _ {P : Type 0} where
  pub refused : {X : Type 0} {c : ℕ} {q : P} → refuse c ≡ next q → X
  refused e = absurd (let z : ◌≡◌ {A = Bool} true false = cc in subst T z tt)

  pub guard_true : (b : Bool) (c : ℕ) (o : Out P) → T b → guard b c o ≡ o
  unfolding guard
  guard_true true c o t = refl
  guard_true false c o t = absurd t

  pub passed : (b : Bool) (c : ℕ) (o : Out P) (q : P) (f : P → Out P) → and_then (guard b c o) f ≡ next q → T b × (and_then o f ≡ next q)
  unfolding guard
  passed true c o q f e = (tt, e)
  passed false c o q f e = refused e

-- a base that costs less than c; or the end
abbrev pub Cheaper : {Base : Type 0} → (Base → ℕ) → ℕ → Option Base → Type 0
Cheaper cost c none = Unit {0}
Cheaper cost c (some b) = cost b < c

module _ {L : Lang} (M : Machine L) where
  open L use {Kind, Pay, disc}
  open M use {Base, opts, due, ready, apart}

  pub run-nil : (p : Place M) → run M p [] ≡ next p
  unfolding run
  run-nil p = refl

  pub run-append : (p : Place M) (l r : List (S L)) → run M p (l ++ r) ≡ and_then (run M p l) (λ q. run M q r)
  unfolding run
  run-append p [] r = refl
  run-append p (s ∷ l) r = go (step M p s) (λ q. run-append q l r)
    where
      go : (o : Out (Place M)) → ((q : Place M) → run M q (l ++ r) ≡ and_then (run M q l) (λ q. run M q r)) → and_then o (λ q. run M q (l ++ r)) ≡ and_then (and_then o (λ q. run M q l)) (λ q. run M q r)
      go (next q) ih = ih q
      go (refuse c) ih = refl

  pub due-apart : (b : Base) → T (lacks L (due b).on (opts b))
  due-apart b = and_l (lacks L (due b).on (opts b)) (distinct L (opts b)) (apart b)

  pub differ : (b : Base) → T (distinct L (opts b))
  differ b = and_r (lacks L (due b).on (opts b)) (distinct L (opts b)) (apart b)

  pub no-option : (row : List (Opt Kind Pay)) (g : List Bool) (k : Kind) (v : Pay k) → T (lacks L k row) → opt_at L row g (say L k v) ≡ other
  no-option [] g k v t = refl
  no-option (o ∷ row) [] k v t = refl
  no-option (o ∷ row) (f ∷ g) k v t = go (disc k o.on) t (no-option row g k v)
    where
      go : (d : Dec (k ≡ o.on)) → T (elim d [ yes e ↦ false | no n ↦ lacks L k row ]) → (T (lacks L k row) → opt_at L row g (say L k v) ≡ other)
          → take L o f g (as_dec L o.on k d v) (opt_at L row g (say L k v)) ≡ other
      go (yes e) t ih = absurd t
      go (no n) t ih = rw (ih t)

  pub goes-due : (b : Base) (v : Pay (due b).on) → T ((due b).test v) → (r : List (S L)) (g : List Bool) → T (ready b g) → run M (inside b g) (say L (due b).on v ∷ r) ≡ run M (enter M ((due b).then v)) r
  unfolding step run
  goes-due b v t r g e =
      let q = next (enter M ((due b).then v)) in
      rw (no-option (opts b) g (due b).on v (due-apart b), as_same L (due b).on v, guard_true ((due b).test v) 9 (guard (ready b g) 25 q) t, guard_true (ready b g) 25 q e) refl

  -- the flags behind options are enough for the due statement
  abbrev pub Enough : (b : Base) (before : List Kind) (os : List (S L)) → Type 0
  Enough b before os = (g : List Bool) → Agrees L (opts b) (kinds-on L os before) g → T (ready b g)

  -- a base is left by options that are fine together and enough, and its due statement
  pub goes : (b : Base) (v : Pay (due b).on) → T ((due b).test v) → (os r : List (S L)) (before : List Kind) (g : List Bool) → Agrees L (opts b) before g → Fine L (opts b) before os → Enough b before os
      → run M (inside b g) (os ++ (say L (due b).on v ∷ r)) ≡ run M (enter M ((due b).then v)) r
  unfolding step run
  goes b v t [] r before g y f e = goes-due b v t r g (e g y)
  goes b v t (s ∷ os) r before g y f e =
      let x = takes L (opts b) before g s (differ b) y f.0 in
      rw x.1 (goes b v t os r (s.kind ∷ before) x.0 x.2 f.1 e)

  -- and by nothing else: its parts are handed on (a chain of `let`s would write each part out in every goal)
  pub from : (b : Base) (before : List Kind) (g : List Bool) → Agrees L (opts b) before g → (l : List (S L)) → Accepts M (inside b g) l → {R : Type 0}
      → ((os : List (S L)) (v : Pay (due b).on) (r : List (S L)) → Fine L (opts b) before os → (g : List Bool) → Agrees L (opts b) (kinds-on L os before) g → T (ready b g) → T ((due b).test v) → l ≡ os ++ (say L (due b).on v ∷ r) → Accepts M (enter M ((due b).then v)) r → R) → R
  unfolding step run
  from b before g y [] h k = absurd (let z : ◌≡◌ {A = Bool} true false = cc in subst T z tt)
  from b before g y (s ∷ l) h {R} k = go (opt_at L (opts b) g s) refl h (λ g' y' h'. from b (s.kind ∷ before) g' y' l h')
    where
      due-case : (o : Option (Pay (due b).on)) → as_kind L (due b).on s ≡ o → and_then (hit M b g o) (λ q. run M q l) ≡ next over → R
      due-case (some v) q h' =
          let q' = next (enter M ((due b).then v)) in
          let p = passed ((due b).test v) 9 (guard (ready b g) 25 q') over (λ q. run M q l) h' in
          let e = passed (ready b g) 25 q' over (λ q. run M q l) p.1 in
          k [] v l tt g y e.0 p.0 (ap (λ (x : S L). x ∷ l) (as-inv L (due b).on s v q)) e.1
      due-case none q h' = refused h'

      go : (x : Verdict) → opt_at L (opts b) g s ≡ x → and_then (settle M b g x s) (λ q. run M q l) ≡ next over
          → ((g' : List Bool) → Agrees L (opts b) (s.kind ∷ before) g' → Accepts M (inside b g') l → ((os : List (S L)) (v : Pay (due b).on) (r : List (S L)) → Fine L (opts b) (s.kind ∷ before) os → (g : List Bool) → Agrees L (opts b) (kinds-on L os (s.kind ∷ before)) g → T (ready b g) → T ((due b).test v) → l ≡ os ++ (say L (due b).on v ∷ r) → Accepts M (enter M ((due b).then v)) r → R) → R) → R
      go other q h' ih = due-case (as_kind L (due b).on s) refl h'
      go (bad c) q h' ih = refused h'
      go (good g') q h' ih = let x = told L (opts b) before g g' s (differ b) y q in
          ih g' x.1 h' λ os v r f g'' y'' e t is rest. k (s ∷ os) v r (x.0, f) g'' y'' e t (ap (◌∷◌ s) is) rest

  -- nothing follows the end
  pub stays : (l : List (S L)) → Accepts M over l → l ≡ []
  unfolding run step
  stays [] h = refl
  stays (s ∷ l) h = refused h

  -- ## Refusals
  -- a base is live if a text can be finished there, whatever options were given
  pub Live : Option Base → Type 0
  Live none = Unit {0}
  Live (some b) = (g : List Bool) → (l : List (S L)) × Accepts M (inside b g) l

  pub live-over : Live none
  unfolding Live
  live-over = tt

  -- options by which a base is made ready for its due statement: none where it is
  pub record Readied (b : Base) (g : List Bool) : Type 0 where
    pub os : List (S L)
    pub flags : List Bool
    pub goes : run M (inside b g) os ≡ next (inside b flags)
    pub now : T (ready b flags)

  pub at_once : (b : Base) (g : List Bool) → ready b g ≡ true → Readied b g
  at_once b g e = record { os = []; flags = g; goes = run-nil (inside b g); now = subst T (sym e) tt }

  pub live-by : (b : Base) (v : Pay (due b).on) → T ((due b).test v) → ((g : List Bool) → Readied b g) → Live ((due b).then v) → Live (some b)
  unfolding Live
  live-by b v t w x g = go ((due b).then v) x (λ r. rw (run-append (inside b g) (w g).os (say L (due b).on v ∷ r), (w g).goes) (goes-due b v t r (w g).flags (w g).now))
    where
      go : (n : Option Base) → Live n → ((r : List (S L)) → run M (inside b g) ((w g).os ++ (say L (due b).on v ∷ r)) ≡ run M (enter M n) r) → (l : List (S L)) × Accepts M (inside b g) l
      go none x e = ((w g).os ++ (say L (due b).on v ∷ []), e [] ∙ run-nil over)
      go (some c) x e = let y = x (clear L (opts c)) in ((w g).os ++ (say L (due b).on v ∷ y.0), e y.0 ∙ y.1)

  -- what is refused begins nothing
  pub ends : (p q : Place M) (l r : List (S L)) (s : (S L)) (c : ℕ) → run M p l ≡ next q → step M q s ≡ refuse c → Accepts M p (l ++ (s ∷ r)) → ⊥
  unfolding run
  ends p q l r s c e f h = refused {c = c} {q = over} (rw (run-append p l (s ∷ r), e, f) at h)

  -- two ways to cut options and a due statement are one
  not-both : (b : Base) (v : Pay (due b).on) (p : S L) (before : List Kind) → say L (due b).on v ≡ p → Allowed L (opts b) before p → ⊥
  not-both b v p before e a =
      let x : some v ≡ none = sym (as_same L (due b).on v) ∙ ap (as_kind L (due b).on) e ∙ elsewhere L (due b).on (opts b) before p (due-apart b) a in
      let z : ◌≡◌ {A = Bool} true false = cc in subst T z tt

  pub cut : (b : Base) (v w : Pay (due b).on) (os ps r s : List (S L)) (before : List Kind) → Fine L (opts b) before os → Fine L (opts b) before ps
      → os ++ (say L (due b).on v ∷ r) ≡ ps ++ (say L (due b).on w ∷ s) → (os ≡ ps) × (v ≡ w) × (r ≡ s)
  cut b v w [] [] r s before f h e =
      let k = (due b).on in
      let q = sym (as_same L k v) ∙ ap (as_kind L k) (head-eq_of_cons-eq e) ∙ as_same L k w in
      (refl, some-injective v w q, tail-eq_of_cons-eq e)
  cut b v w [] (p ∷ ps) r s before f h e = absurd (not-both b v p before (head-eq_of_cons-eq e) h.0)
  cut b v w (o ∷ os) [] r s before f h e = absurd (not-both b w o before (sym (head-eq_of_cons-eq e)) f.0)
  cut b v w (o ∷ os) (p ∷ ps) r s before f h e =
      let a : o ≡ p = head-eq_of_cons-eq e in
      let x = cut b v w os ps r s (o.kind ∷ before) f.1 (subst (λ (q : S L). Fine L (opts b) (q.kind ∷ before) ps) (sym a) h.1) (tail-eq_of_cons-eq e) in
      (ap₂ (λ (o : S L) (l : List (S L)). o ∷ l) a x.0, x.1, x.2)

  -- ## Every good base is live, where each has a sample that leads to a cheaper one
  module _ (Good : Base → Type 0) (cost : Base → ℕ) where
    -- what a good base has: it can be made ready, every permitted statement leads to a good one, and one of them to a cheaper one
    pub record Goes_on (b : Base) : Type 0 where
      pub keeps : (v : Pay (due b).on) → T ((due b).test v) → GoodNext M Good ((due b).then v)
      pub v : Pay (due b).on
      pub ok : T ((due b).test v)
      pub less : Cheaper cost (cost b) ((due b).then v)
      pub readied : (g : List Bool) → Readied b g

    module _ (all : (b : Base) → Good b → Goes_on b) where
      live-within : (n : ℕ) (b : Base) → Good b → cost b < n → Live (some b)
      live-within zero b y h = absurd (omega arith)
      live-within (suc n) b y h = let x = all b y in live-by b x.v x.ok x.readied (go ((due b).then x.v) (x.keeps x.v x.ok) x.less (live-within n))
        where
          go : (x : Option Base) → GoodNext M Good x → Cheaper cost (cost b) x → ((c : Base) → Good c → cost c < n → Live (some c)) → Live x
          go none w y ih = live-over
          go (some c) w y ih = ih c w (omega arith)

      -- what is not refused can be finished
      pub begins : (b : Base) → Good b → (q : Place M) (l : List (S L)) → run M (at M b) l ≡ next q → (r : List (S L)) × Accepts M (at M b) (l ++ r)
      unfolding Live
      begins b y over l e = ([], rw (run-append (at M b) l [], e) (run-nil over))
      begins b y (inside c g) l e =
          let w : Good c = subst (GoodOut M Good) e (run-good M Good (λ b y. (all b y).keeps) (at M b) l y) in
          let x = live-within (suc (cost c)) c w (omega arith) g in
          (x.0, rw (run-append (at M b) l x.0, e) x.1)
