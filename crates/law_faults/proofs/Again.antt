-- A single option was given at a place if and only if a line of its kind stands before, with only options behind it. For every file. Assumes nothing.
use mathlib.Core.Path.{◌≡◌, refl, sym, ap, subst, ◌∙◌}
use mathlib.Core.List.{List, [], ◌∷◌, ◌++◌, map, map-append, append_assoc, append-nil}
use mathlib.Core.Option.{Option, none, some}
use mathlib.Core.Bool.{Bool, true, false, ◌&&◌}
use mathlib.Core.Logic.{◌⊎◌, inl, inr}
use Prim.Native.Nat.{ℕ}
use native.Mathlib.Omega.{arith}
use Rattle.terms.specs.Ascii.{Bytes}
use Rattle.terms.specs.Words.{Each}
use Rattle.terms.proofs.Tests.{nothing, clash}
use Rattle.terms.proofs.Lists.{each_append}
use Rattle.grammar.specs.Editions.{Edition}
use Rattle.grammar.specs.Language.{Lang, S, say, as_kind}
use Rattle.grammar.specs.Machine.{next, Opt, Verdict, other, bad, good, opt_at, guard, Machine, over, inside, Place, at, enter, hit, settle, step, run}
use Rattle.grammar.specs.Stands.{given, as_due, of_row_of, stands}
use Rattle.grammar.proofs.LanguageLaws.{as-inv, memb, kinds-on, Allowed}
use Rattle.grammar.proofs.MachineLaws.{Agrees, clear-agrees, differ, refused, told}
use Rattle.text.specs.Said as Old
use Rattle.text.specs.Judge.{Lexis}
use Rattle.law.specs.Network.{Line, Rules}
use Rattle.law.specs.Faults.{IsOption}
use Rattle.law_spelling.specs.LineOf.{law_line}
use Rattle.law_faults.proofs.Needs.{Listed, Needs}
use Rattle.law_faults.proofs.Reached.{laws, run-parts, run-one, nil-run, Came}
use Rattle.law_faults.proofs.Opening.{word_line, word-kind}

-- what holds of each of a list holds of each of its end
pub each-end : {A : Type 0} (P : A → Type 0) (l r : List A) → Each P (l ++ r) → Each P r
each-end P [] r h = h
each-end P (a ∷ l) r h = each-end P l r h.1

module _ (L : Lang) where
  open L use {Kind, Pay, disc}

  kinds_snoc : (l : List (S L)) (s : S L) (ks : List Kind) → kinds-on L (l ++ (s ∷ [])) ks ≡ s.kind ∷ kinds-on L l ks
  kinds_snoc [] s ks = refl
  kinds_snoc (a ∷ l) s ks = kinds_snoc l s (a.kind ∷ ks)

  -- a statement of a kind, among others
  pub record Found (k : Kind) (l : List (S L)) : Type 0 where
    pub before : List (S L)
    pub here : S L
    pub behind : List (S L)
    pub is : l ≡ before ++ (here ∷ behind)
    pub of : here.kind ≡ k

  find : (k : Kind) (l : List (S L)) (ks : List Kind) → memb L k (kinds-on L l ks) ≡ true → (memb L k ks ≡ true) ⊎ Found k l
  find k [] ks e = inl e
  find k (s ∷ l) ks e = go (find k l (s.kind ∷ ks) e)
    where
      first : (d : Dec (s.kind ≡ k)) → ◌≡◌ {A = Bool} (elim d as (λ x. Bool) [ yes e ↦ true | no n ↦ memb L k ks ]) true → (memb L k ks ≡ true) ⊎ Found k (s ∷ l)
      first (yes q) e = inr (record { before = []; here = s; behind = l; is = refl; of = q })
      first (no n) e = inl e

      go : (memb L k (s.kind ∷ ks) ≡ true) ⊎ Found k l → (memb L k ks ≡ true) ⊎ Found k (s ∷ l)
      go (inl e) = first (disc s.kind k) e
      go (inr x) = inr (record { before = s ∷ x.before; here = x.here; behind = x.behind; is = ap (◌∷◌ s) x.is; of = x.of })

  both_true : (a b : Bool) → (a && (a && b)) ≡ true → b ≡ true
  both_true true b e = e
  both_true false b e = clash (sym e)

  -- a single option whose flag is set was given
  given-memb : (row : List (Opt Kind Pay)) (before : List Kind) (g : List Bool) (k : Kind) → Agrees L row before g → given L row g k ≡ some true → memb L k before ≡ true
  given-memb [] before g k a e = nothing e
  given-memb (o ∷ row) before [] k a e = nothing e
  given-memb (o ∷ row) before (f ∷ g) k a e = go (disc k o.on) e (given-memb row before g k a.1)
    where
      go : (d : Dec (k ≡ o.on)) → ◌≡◌ {A = Option Bool} (elim d as (λ x. Option Bool) [ yes e ↦ some (o.once && f) | no n ↦ given L row g k ]) (some true) → (given L row g k ≡ some true → memb L k before ≡ true) → memb L k before ≡ true
      go (yes q) e ih =
          let z : (o.once && f) ≡ true = cc in
          subst (λ (k : Kind). memb L k before ≡ true) (sym q) (both_true o.once (memb L o.on before) (ap (◌&&◌ o.once) (sym a.0) ∙ z))
      go (no n) e ih = ih e

  -- an option of a row has a flag there
  has_flag : (row : List (Opt Kind Pay)) (before was : List Kind) (g : List Bool) (s : S L) → Allowed L row was s → Agrees L row before g → (x : Bool) × (given L row g s.kind ≡ some x)
  has_flag [] before was g s a h = absurd a
  has_flag (o ∷ row) before was [] s a h = absurd h
  has_flag (o ∷ row) before was (f ∷ g) s a h = go (disc s.kind o.on) a (λ a. has_flag row before was g s a h.1)
    where
      go : (d : Dec (s.kind ≡ o.on)) → Allowed L (o ∷ row) was s → (Allowed L row was s → (x : Bool) × (given L row g s.kind ≡ some x))
          → (x : Bool) × (◌≡◌ {A = Option Bool} (elim d as (λ x. Option Bool) [ yes e ↦ some (o.once && f) | no n ↦ given L row g s.kind ]) (some x))
      go (yes q) a ih = (o.once && f, refl)
      go (no n) (inl a) ih = absurd (n (ap (λ (s : S L). s.kind) a.1))
      go (no n) (inr a) ih = ih a

module _ {ed : Edition} {rules : Rules} {L : Lang} (A : Machine L) (X : Lexis L) (Line-of : (k : L.Kind) → L.Pay k → List Old.Said) {Net : Type 0} (Said : Net → List (S L) → Type 0) (Spells : Rules → Net → List Line → Type 0) (first : A.Base) (N : Needs ed rules A X Line-of Said Spells first) where
  open L use {Kind, Pay, disc}

  abbrev law : S L → Line
  law = law_line Line-of

  -- ## Lines of options
  option-line : (k : Kind) (v : Pay k) → Listed (X.keyword k) → IsOption (law (say L k v))
  option-line k v h = go (X.keyword k) refl h
    where
      go : (o : Option Bytes) → X.keyword k ≡ o → Listed o → IsOption (law (say L k v))
      go none e h = absurd h
      go (some w) e h = (w, _, word_line A X Line-of Said Spells first N k v w e, h)

  -- an option of a row is one of the law's
  row-option : (row : List (Opt Kind Pay)) (before : List Kind) (s : S L) → Each (λ o. Listed (X.keyword o.on)) row → Allowed L row before s → IsOption (law s)
  row-option [] before s h a = absurd a
  row-option (o ∷ row) before s h (inl a) = subst (λ (s : S L). IsOption (law s)) (sym a.1) (option-line o.on a.0 h.0)
  row-option (o ∷ row) before s h (inr a) = row-option row before s h.1 a

  -- ## What came since a place's options began
  pub record Since (said : List (S L)) (b : A.Base) (g : List Bool) : Type 0 where
    pub earlier : List (S L)
    pub since : List (S L)
    pub is : said ≡ earlier ++ since
    pub flags : Agrees L (A.opts b) (kinds-on L since []) g
    pub only : Each IsOption (laws Line-of since)

  abbrev History : List (S L) → Place A → Type 0
  History said over = Unit {0}
  History said (inside b g) = Since said b g

  fresh : (said : List (S L)) (o : Option A.Base) → History said (enter A o)
  fresh said none = tt
  fresh said (some c) = record { earlier = said; since = []; is = sym (append-nil said); flags = clear-agrees L (A.opts c); only = tt }

  -- nothing is taken at the end
  at-end : {R : Type 0} (s : S L) (q : Place A) → step A over s ≡ next q → R
  unfolding step
  at-end s q e = refused e

  -- at a base, a statement is an option, and the base stays; or it is due
  at_base : (b : A.Base) (g : List Bool) (s : S L) (q : Place A) → step A (inside b g) s ≡ next q
      → ((g' : List Bool) × (q ≡ inside b g') × (opt_at L (A.opts b) g s ≡ good g')) ⊎ ((v : Pay (A.due b).on) × (s ≡ say L (A.due b).on v) × (q ≡ enter A ((A.due b).then v)))
  unfolding step guard
  at_base b g s q e = go (opt_at L (A.opts b) g s) refl e
    where
      passed : (t r : Bool) (m : Place A) → guard t 9 (guard r 25 (next m)) ≡ next q → q ≡ m
      passed true true m e = let z : m ≡ q = cc in sym z
      passed true false m e = refused e
      passed false r m e = refused e

      due : (o : Option (Pay (A.due b).on)) → as_kind L (A.due b).on s ≡ o → hit A b g o ≡ next q → (v : Pay (A.due b).on) × (s ≡ say L (A.due b).on v) × (q ≡ enter A ((A.due b).then v))
      due none i e = refused e
      due (some v) i e = (v, as-inv L (A.due b).on s v i, passed ((A.due b).test v) (A.ready b g) (enter A ((A.due b).then v)) e)

      go : (x : Verdict) → opt_at L (A.opts b) g s ≡ x → settle A b g x s ≡ next q
          → ((g' : List Bool) × (q ≡ inside b g') × (opt_at L (A.opts b) g s ≡ good g')) ⊎ ((v : Pay (A.due b).on) × (s ≡ say L (A.due b).on v) × (q ≡ enter A ((A.due b).then v)))
      go other h e = inr (due (as_kind L (A.due b).on s) refl e)
      go (bad c) h e = refused e
      go (good g') h e = inl (g', (let z : inside b g' ≡ q = cc in sym z), h)

  history-step : (said : List (S L)) (p q : Place A) (s : S L) → History said p → step A p s ≡ next q → History (said ++ (s ∷ [])) q
  history-step said over q s h e = at-end s q e
  history-step said (inside b g) q s h e = go (at_base b g s q e)
    where
      go : ((g' : List Bool) × (q ≡ inside b g') × (opt_at L (A.opts b) g s ≡ good g')) ⊎ ((v : Pay (A.due b).on) × (s ≡ say L (A.due b).on v) × (q ≡ enter A ((A.due b).then v))) → History (said ++ (s ∷ [])) q
      go (inl (g', i, o)) =
          let t = told L (A.opts b) (kinds-on L h.since []) g g' s (differ A b) h.flags o in
          subst (History (said ++ (s ∷ []))) (sym i) (record {
            earlier = h.earlier;
            since = h.since ++ (s ∷ []);
            is = ap (λ (l : List (S L)). l ++ (s ∷ [])) h.is ∙ append_assoc h.earlier h.since (s ∷ []);
            flags = subst (λ (ks : List Kind). Agrees L (A.opts b) ks g') (sym (kinds_snoc L h.since s [])) t.1;
            only = subst (Each IsOption) (sym (map-append law h.since (s ∷ []))) (each_append IsOption (laws Line-of h.since) (law s ∷ []) h.only (row-option (A.opts b) (kinds-on L h.since []) s (N.listed b) t.0, tt));
          })
      go (inr (v, i, j)) = subst (History (said ++ (s ∷ []))) (sym j) (fresh (said ++ (s ∷ [])) ((A.due b).then v))

  history-run : (said more : List (S L)) (p q : Place A) → History said p → run A p more ≡ next q → History (said ++ more) q
  history-run said [] p q h e = subst (λ (l : List (S L)). History l q) (sym (append-nil said)) (subst (History said) (nil-run A p q e) h)
  history-run said (s ∷ more) p q h e =
      let x = run-one A p q s more e in
      subst (λ (l : List (S L)). History l q) (append_assoc said (s ∷ []) more) (history-run (said ++ (s ∷ [])) more x.0 q (history-step said p x.0 s h x.1) x.2)

  pub history : (said : List (S L)) (p : Place A) → Came A X Line-of Said Spells first N said p → History said p
  history said p c = history-run [] said (at A first) p (fresh [] (some first)) c

  -- ## A single option that was given
  pub record Given (said : List (S L)) (k : Kind) : Type 0 where
    pub earlier : List (S L)
    pub here : S L
    pub since : List (S L)
    pub was : laws Line-of said ≡ laws Line-of earlier ++ (law here ∷ laws Line-of since)
    pub of : here.kind ≡ k
    pub only : Each IsOption (law here ∷ laws Line-of since)

  -- it stands before, with only options behind it ..
  pub given-before : (said : List (S L)) (p : Place A) (k : Kind) → Came A X Line-of Said Spells first N said p → stands A p k ≡ some 6 → Given said k
  unfolding stands
  given-before said over k c e = absurd (let z : ◌≡◌ {A = ℕ} 5 6 = cc in omega arith)
  given-before said (inside b g) k c e = go (given L (A.opts b) g k) refl (disc k (A.due b).on) e
    where
      h : Since said b g
      h = history said (inside b g) c

      found : Found L k h.since → Given said k
      found x = record {
        earlier = h.earlier ++ x.before;
        here = x.here;
        since = x.behind;
        was = ap (map law) (h.is ∙ ap (◌++◌ h.earlier) x.is ∙ sym (append_assoc h.earlier x.before (x.here ∷ x.behind))) ∙ map-append law (h.earlier ++ x.before) (x.here ∷ x.behind);
        of = x.of;
        only = each-end IsOption (laws Line-of x.before) (law x.here ∷ laws Line-of x.behind) (subst (Each IsOption) (ap (map law) x.is ∙ map-append law x.before (x.here ∷ x.behind)) h.only);
      }

      which : (memb L k [] ≡ true) ⊎ Found L k h.since → Given said k
      which (inl q) = clash (sym q)
      which (inr x) = found x

      go : (x : Option Bool) → given L (A.opts b) g k ≡ x → (d : Dec (k ≡ (A.due b).on)) → of_row_of x (as_due d) ≡ some 6 → Given said k
      go (some true) q d e = which (find L k h.since [] (given-memb L (A.opts b) (kinds-on L h.since []) g k h.flags q))
      go (some false) q d e = nothing e
      go none q (yes i) e = nothing e
      go none q (no n) e = absurd (let z : ◌≡◌ {A = ℕ} 5 6 = cc in omega arith)

  -- .. and where it does, the place is still among the same options: it may not stand, or it may come again
  not-due : (b : A.Base) (s : S L) (v : Pay (A.due b).on) → s ≡ say L (A.due b).on v → IsOption (law s) → ⊥
  not-due b s v e o =
      let w = word-kind A X Line-of Said Spells first N (A.due b).on v o.0 o.1 (ap law (sym e) ∙ o.2) in
      N.unlisted b (subst Listed (sym w) o.3)

  options-stay : (b : A.Base) (before : List Kind) (g : List Bool) (l : List (S L)) (q : Place A) → Agrees L (A.opts b) before g → Each IsOption (laws Line-of l) → run A (inside b g) l ≡ next q
      → (after : List Kind) × (g' : List Bool) × (q ≡ inside b g') × Agrees L (A.opts b) after g'
  options-stay b before g [] q a h e = (before, g, sym (nil-run A (inside b g) q e), a)
  options-stay b before g (s ∷ l) q a h e =
      let x = run-one A (inside b g) q s l e in
      go x.0 (at_base b g s x.0 x.1) x.2 (λ g' a e. options-stay b (s.kind ∷ before) g' l q a h.1 e)
    where
      go : (m : Place A) → ((g' : List Bool) × (m ≡ inside b g') × (opt_at L (A.opts b) g s ≡ good g')) ⊎ ((v : Pay (A.due b).on) × (s ≡ say L (A.due b).on v) × (m ≡ enter A ((A.due b).then v))) → run A m l ≡ next q
          → ((g' : List Bool) → Agrees L (A.opts b) (s.kind ∷ before) g' → run A (inside b g') l ≡ next q → (after : List Kind) × (g' : List Bool) × (q ≡ inside b g') × Agrees L (A.opts b) after g')
          → (after : List Kind) × (g' : List Bool) × (q ≡ inside b g') × Agrees L (A.opts b) after g'
      go m (inl (g', i, o)) r ih =
          let t = told L (A.opts b) before g g' s (differ A b) a o in
          ih g' t.1 (subst (λ (m : Place A). run A m l ≡ next q) i r)
      go m (inr (v, i, j)) r ih = absurd (not-due b s v i h.0)

  flagged : (b : A.Base) (g : List Bool) (k : Kind) (x : Bool) → given L (A.opts b) g k ≡ some x → (stands A (inside b g) k ≡ none) ⊎ (stands A (inside b g) k ≡ some 6)
  unfolding stands
  flagged b g k true i = inr (rw i)
  flagged b g k false i = inl (rw i)

  stood : (said : List (S L)) (p q m : Place A) (s : S L) (since : List (S L)) → History said m → step A m s ≡ next q → run A q since ≡ next p → Each IsOption (law s ∷ laws Line-of since) → (stands A p s.kind ≡ none) ⊎ (stands A p s.kind ≡ some 6)
  stood said p q over s since h e r o = at-end s q e
  stood said p q (inside b g) s since h e r o = go (at_base b g s q e)
    where
      go : ((g' : List Bool) × (q ≡ inside b g') × (opt_at L (A.opts b) g s ≡ good g')) ⊎ ((v : Pay (A.due b).on) × (s ≡ say L (A.due b).on v) × (q ≡ enter A ((A.due b).then v))) → (stands A p s.kind ≡ none) ⊎ (stands A p s.kind ≡ some 6)
      go (inl (g', i, j)) =
          let t = told L (A.opts b) (kinds-on L h.since []) g g' s (differ A b) h.flags j in
          let x = options-stay b (s.kind ∷ kinds-on L h.since []) g' since p t.1 o.1 (subst (λ (m : Place A). run A m since ≡ next p) i r) in
          let y = has_flag L (A.opts b) x.0 (kinds-on L h.since []) x.1 s t.0 x.3 in
          subst (λ (p : Place A). (stands A p s.kind ≡ none) ⊎ (stands A p s.kind ≡ some 6)) (sym x.2) (flagged b x.1 s.kind y.0 y.1)
      go (inr (v, i, j)) = absurd (not-due b s v i o.0)

  pub stood-before : (earlier : List (S L)) (s : S L) (since : List (S L)) (p : Place A) → Came A X Line-of Said Spells first N (earlier ++ (s ∷ since)) p → Each IsOption (law s ∷ laws Line-of since) → (stands A p s.kind ≡ none) ⊎ (stands A p s.kind ≡ some 6)
  stood-before earlier s since p c o =
      let x = run-parts A (at A first) p earlier (s ∷ since) c in
      let y = run-one A x.0 p s since x.2 in
      stood earlier p y.0 x.0 s since (history earlier x.0 x.1) y.1 y.2 o
