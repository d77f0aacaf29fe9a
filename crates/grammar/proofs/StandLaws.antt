-- What may stand at a place by its kind is what the machine takes there. Assumes nothing.
use mathlib.Core.Path.{◌≡◌, refl, sym, ap, subst, ◌∙◌}
use mathlib.Core.List.{List, [], ◌∷◌}
use mathlib.Core.Option.{Option, none, some}
use mathlib.Core.Bool.{Bool, true, false, ◌&&◌}
use mathlib.Core.Logic.{◌⊎◌, inl, inr}
use Prim.Native.Nat.{ℕ}
use native.Mathlib.Omega.{arith}
use lib.Dec.{T, eqb}
use Rattle.terms.specs.Words.{pick}
use Rattle.grammar.specs.Language.{Lang, S, say, as_dec, as_kind}
use Rattle.grammar.specs.Machine.{Out, next, refuse, Opt, Verdict, other, bad, good, judge, onto, take, opt_at, lacks, guard, Machine, lenient, over, inside, Place, enter, hit, settle, step}
use Rattle.grammar.specs.Stands.{given, as_due, of_row_of, stands}
use Rattle.grammar.proofs.LanguageLaws.{as_same}
use Rattle.grammar.proofs.MachineLaws.{no-option, due-apart, guard_true}

-- the number that is known before the values are: 5 or 6, or 0 where it is the values' turn
abbrev pub early : {P : Type 0} → Out P → ℕ
early (next p) = 0
early (refuse c) = pick (eqb c 9) 0 (pick (eqb c 25) 0 c)

-- 0 for no refusal
abbrev pub number_of : Option ℕ → ℕ
number_of none = 0
number_of (some c) = c

module _ {L : Lang} (A : Machine L) where
  open L use {Kind, Pay, disc}
  open A use {Base, opts, due, ready}

  -- what a row says of a kind it says of each statement of it
  abbrev Row : Option Bool → Verdict → Type 0
  Row none v = v ≡ other
  Row (some true) v = v ≡ bad 6
  Row (some false) v = (t : Bool) × (g : List Bool) × (v ≡ judge false t g)

  under : (f : Bool) (x : Option Bool) (v : Verdict) → Row x v → Row x (onto f v)
  under f none v h = rw h
  under f (some true) v h = rw h
  under f (some false) v (t, g, e) = (t, f ∷ g, ap (onto f) e ∙ go t)
    where
      go : (t : Bool) → onto f (judge false t g) ≡ judge false t (f ∷ g)
      go true = refl
      go false = refl

  row-says : (row : List (Opt Kind Pay)) (g : List Bool) (k : Kind) (v : Pay k) → Row (given L row g k) (opt_at L row g (say L k v))
  row-says [] g k v = refl
  row-says (o ∷ row) [] k v = refl
  row-says (o ∷ row) (f ∷ g) k v = go (disc k o.on) (row-says row g k v)
    where
      now : (b t : Bool) (g : List Bool) → Row (some b) (judge b t g)
      now true t g = refl
      now false t g = (t, g, refl)

      go : (d : Dec (k ≡ o.on)) → Row (given L row g k) (opt_at L row g (say L k v))
          → Row (elim d as (λ x. Option Bool) [ yes e ↦ some (o.once && f) | no n ↦ given L row g k ]) (take L o f g (as_dec L o.on k d v) (opt_at L row g (say L k v)))
      go (yes e) h = now (o.once && f) (o.test (subst Pay e v)) (o.once ∷ g)
      go (no n) h = under f (given L row g k) (opt_at L row g (say L k v)) h

  -- By the kind alone it is known whether 5 or 6 is the answer; else the answer is 9, 25 or the next place.
  pub early-stands : (p : Place A) (k : Kind) (v : Pay k) → early (step A p (say L k v)) ≡ number_of (stands A p k)
  unfolding stands step guard
  early-stands over k v = refl
  early-stands (inside b g) k v = go (given L (opts b) g k) (row-says (opts b) g k v)
    where
      guarded : (t e : Bool) (q : Place A) → early (guard t 9 (guard e 25 (next q))) ≡ 0
      guarded true true q = refl
      guarded true false q = refl
      guarded false e q = refl

      due-case : (d : Dec (k ≡ (due b).on)) → early (hit A b g (as_dec L (due b).on k d v)) ≡ number_of (as_due d)
      due-case (yes e) = guarded ((due b).test (subst Pay e v)) (ready b g) (enter A ((due b).then (subst Pay e v)))
      due-case (no n) = refl

      judged : (t : Bool) (g' : List Bool) → early (settle A b g (judge false t g') (say L k v)) ≡ 0
      judged true g' = refl
      judged false g' = refl

      go : (x : Option Bool) → Row x (opt_at L (opts b) g (say L k v)) → early (settle A b g (opt_at L (opts b) g (say L k v)) (say L k v)) ≡ number_of (of_row_of x (as_due (disc k (due b).on)))
      go none h = rw h (due-case (disc k (due b).on))
      go (some true) h = rw h
      go (some false) (t, g', h) = rw h (judged t g')

  -- a kind that may not stand is refused by that number, whatever its value
  pub stands-refused : (p : Place A) (k : Kind) (v : Pay k) (c : ℕ) → stands A p k ≡ some c → step A p (say L k v) ≡ refuse c
  unfolding stands step
  stands-refused over k v c e = ap refuse (cc)
  stands-refused (inside b g) k v c e = go (given L (opts b) g k) (row-says (opts b) g k v) e
    where
      due-case : (d : Dec (k ≡ (due b).on)) → as_due d ≡ some c → hit A b g (as_dec L (due b).on k d v) ≡ refuse c
      due-case (yes q) e = absurd (let z : ◌≡◌ {A = ℕ} 0 1 = cc in omega arith)
      due-case (no n) e = ap refuse (cc)

      go : (x : Option Bool) → Row x (opt_at L (opts b) g (say L k v)) → of_row_of x (as_due (disc k (due b).on)) ≡ some c → settle A b g (opt_at L (opts b) g (say L k v)) (say L k v) ≡ refuse c
      go none h e = rw h (due-case (disc k (due b).on) e)
      go (some true) h e = rw h (ap refuse (cc))
      go (some false) h e = absurd (let z : ◌≡◌ {A = ℕ} 0 1 = cc in omega arith)

  -- what is taken may stand
  pub stands-all : (p : Place A) (k : Kind) (v : Pay k) (q : Place A) → step A p (say L k v) ≡ next q → stands A p k ≡ none
  stands-all p k v q e = go (stands A p k) refl
    where
      go : (x : Option ℕ) → stands A p k ≡ x → x ≡ none
      go none s = refl
      go (some c) s = absurd (let f : refuse c ≡ next q = sym (stands-refused p k v c s) ∙ e in let z : ◌≡◌ {A = ℕ} 0 1 = cc in omega arith)

  -- it is the end
  abbrev pub is_over : Place A → Bool
  is_over over = true
  is_over (inside b g) = false

  pub over-is : (p : Place A) → is_over p ≡ true → p ≡ over
  over-is over e = refl
  over-is (inside b g) e = absurd (let z : ◌≡◌ {A = ℕ} 0 1 = cc in omega arith)

  -- the due statement is taken
  pub step-due : (b : Base) (g : List Bool) (v : Pay (due b).on) → T ((due b).test v) → T (ready b g) → step A (inside b g) (say L (due b).on v) ≡ next (enter A ((due b).then v))
  unfolding step
  step-due b g v t e =
      let q = next (enter A ((due b).then v)) in
      rw (no-option A (opts b) g (due b).on v (due-apart A b), as_same L (due b).on v, guard_true ((due b).test v) 9 (guard (ready b g) 25 q) t, guard_true (ready b g) 25 q e)

  -- ## What may stand, by the kind that is due
  given-lacks : (row : List (Opt Kind Pay)) (g : List Bool) (k : Kind) → T (lacks L k row) → given L row g k ≡ none
  given-lacks [] g k t = refl
  given-lacks (o ∷ row) [] k t = refl
  given-lacks (o ∷ row) (f ∷ g) k t = go (disc k o.on) t (given-lacks row g k)
    where
      go : (d : Dec (k ≡ o.on)) → T (elim d [ yes e ↦ false | no n ↦ lacks L k row ]) → (T (lacks L k row) → given L row g k ≡ none)
          → ◌≡◌ {A = Option Bool} (elim d as (λ x. Option Bool) [ yes e ↦ some (o.once && f) | no n ↦ given L row g k ]) none
      go (yes e) t h = absurd t
      go (no n) t h = h t

  pub stands-due : (b : Base) (g : List Bool) → stands A (inside b g) (due b).on ≡ none
  unfolding stands
  stands-due b g = rw (given-lacks (opts b) g (due b).on (due-apart A b)) (go (disc (due b).on (due b).on))
    where
      go : (d : Dec ((due b).on ≡ (due b).on)) → as_due d ≡ none
      go (yes e) = refl
      go (no n) = absurd (n refl)

  pub stands-five : (b : Base) (g : List Bool) (k : Kind) → T (lacks L k (opts b)) → (k ≡ (due b).on → ⊥) → stands A (inside b g) k ≡ some 5
  unfolding stands
  stands-five b g k t n = rw (given-lacks (opts b) g k t) (go (disc k (due b).on))
    where
      go : (d : Dec (k ≡ (due b).on)) → as_due d ≡ some 5
      go (yes e) = absurd (n e)
      go (no q) = refl

  -- ## Where no option has to be given
  -- the same is taken and refused, but for 25
  pub asked : (p : Place A) (s : S L) → (step A p s ≡ step (lenient A) p s) ⊎ ((step A p s ≡ refuse 25) × (q : Place A) × (step (lenient A) p s ≡ next q))
  unfolding step guard
  asked over s = inl refl
  asked (inside b g) s = go (opt_at L (opts b) g s)
    where
      guarded : (t r : Bool) (q : Place A) → (guard t 9 (guard r 25 (next q)) ≡ guard t 9 (guard true 25 (next q))) ⊎ ((guard t 9 (guard r 25 (next q)) ≡ refuse 25) × (q' : Place A) × (guard t 9 (guard true 25 (next q)) ≡ next q'))
      guarded true true q = inl refl
      guarded true false q = inr (refl, q, refl)
      guarded false r q = inl refl

      hits : (o : Option (Pay (due b).on)) → (hit A b g o ≡ hit (lenient A) b g o) ⊎ ((hit A b g o ≡ refuse 25) × (q : Place A) × (hit (lenient A) b g o ≡ next q))
      hits none = inl refl
      hits (some v) = guarded ((due b).test v) (ready b g) (enter A ((due b).then v))

      go : (x : Verdict) → (settle A b g x s ≡ settle (lenient A) b g x s) ⊎ ((settle A b g x s ≡ refuse 25) × (q : Place A) × (settle (lenient A) b g x s ≡ next q))
      go other = hits (as_kind L (due b).on s)
      go (bad c) = inl refl
      go (good g') = inl refl

  pub stands-lenient : (p : Place A) (k : Kind) → stands (lenient A) p k ≡ stands A p k
  unfolding stands
  stands-lenient over k = refl
  stands-lenient (inside b g) k = refl

  -- a kind that may stand is then refused with 9 only
  pub lenient-nine : (p : Place A) (k : Kind) (v : Pay k) (c : ℕ) → stands A p k ≡ none → step (lenient A) p (say L k v) ≡ refuse c → c ≡ 9
  unfolding stands step guard
  lenient-nine over k v c h e = absurd (let z : ◌≡◌ {A = ℕ} 0 1 = cc in omega arith)
  lenient-nine (inside b g) k v c h e = go (given L (opts b) g k) (row-says (opts b) g k v) h e
    where
      shut : {c : ℕ} {q : Place A} → next q ≡ refuse c → c ≡ 9
      shut e = absurd (let z : ◌≡◌ {A = ℕ} 0 1 = cc in omega arith)

      same : {c : ℕ} → ◌≡◌ {A = Out (Place A)} (refuse 9) (refuse c) → c ≡ 9
      same {c} e = let z : 9 ≡ c = cc in sym z

      guarded : (t : Bool) (q : Place A) → guard t 9 (guard true 25 (next q)) ≡ refuse c → c ≡ 9
      guarded true q e = shut e
      guarded false q e = same e

      due-case : (d : Dec (k ≡ (due b).on)) → as_due d ≡ none → hit (lenient A) b g (as_dec L (due b).on k d v) ≡ refuse c → c ≡ 9
      due-case (yes q) h e = guarded ((due b).test (subst Pay q v)) (enter A ((due b).then (subst Pay q v))) e
      due-case (no n) h e = absurd (let z : ◌≡◌ {A = ℕ} 0 1 = cc in omega arith)

      judged : (t : Bool) (g' : List Bool) → settle (lenient A) b g (judge false t g') (say L k v) ≡ refuse c → c ≡ 9
      judged true g' e = shut e
      judged false g' e = same e

      go : (x : Option Bool) → Row x (opt_at L (opts b) g (say L k v)) → of_row_of x (as_due (disc k (due b).on)) ≡ none → settle (lenient A) b g (opt_at L (opts b) g (say L k v)) (say L k v) ≡ refuse c → c ≡ 9
      go none r h e = due-case (disc k (due b).on) h (rw r at e)
      go (some true) r h e = absurd (let z : ◌≡◌ {A = ℕ} 0 1 = cc in omega arith)
      go (some false) (t, g', r) h e = judged t g' (rw r at e)
