-- Where a kind may stand, a place takes or refuses its statements by one test: of the option, or of the due statement. For every file. Assumes nothing.
use mathlib.Core.Path.{◌≡◌, refl, sym, ap, subst, ◌∙◌}
use mathlib.Core.List.{List, [], ◌∷◌}
use mathlib.Core.Option.{Option, none, some}
use mathlib.Core.Bool.{Bool, true, false, ◌&&◌}
use Prim.Native.Nat.{ℕ}
use Rattle.terms.specs.Words.{Each}
use Rattle.terms.proofs.Tests.{nothing}
use Rattle.grammar.specs.Language.{Lang, S, say}
use Rattle.grammar.specs.Machine.{Out, next, refuse, judge, onto, Opt, opt_at, take, guard, Machine, over, inside, Place, enter, hit, settle, step}
use Rattle.grammar.specs.Stands.{given, as_due, of_row_of, stands}
use Rattle.grammar.proofs.LanguageLaws.{as_same}
use Rattle.grammar.proofs.MachineLaws.{none_of, no-option, due-apart}
use Rattle.law_columns.specs.Finding.{taken?}

-- Q: what is known of every test
module _ (L : Lang) (Q : (k : L.Kind) → (L.Pay k → Bool) → Type 0) where
  open L use {Kind, Pay, disc}

  -- of an option that may stand
  pub record InRow (row : List (Opt Kind Pay)) (g : List Bool) (k : Kind) : Type 0 where
    pub test : Pay k → Bool
    pub known : Q k test
    pub flags : List Bool
    pub by : (v : Pay k) → opt_at L row g (say L k v) ≡ judge false (test v) flags

  judged-onto : (f t : Bool) (g : List Bool) → onto f (judge false t g) ≡ judge false t (f ∷ g)
  judged-onto f true g = refl
  judged-onto f false g = refl

  pub in_row : (row : List (Opt Kind Pay)) (g : List Bool) (k : Kind) → given L row g k ≡ some false → Each (λ o. Q o.on o.test) row → InRow row g k
  in_row [] g k e h = nothing e
  in_row (o ∷ row) [] k e h = nothing e
  in_row (o ∷ row) (f ∷ g) k e h = go (disc k o.on) e (λ e. in_row row g k e h.1)
    where
      here : (b : Bool) → (o.once && f) ≡ b → b ≡ false → InRow (o ∷ row) (f ∷ g) o.on
      here b q e = record {
        test = o.test;
        known = h.0;
        flags = o.once ∷ g;
        by = λ v. ap (λ (x : Option (Pay o.on)). take L o f g x (opt_at L row g (say L o.on v))) (as_same L o.on v) ∙ ap (λ (b : Bool). judge b (o.test v) (o.once ∷ g)) (q ∙ e);
      }

      go : (d : Dec (k ≡ o.on)) → ◌≡◌ {A = Option Bool} (elim d as (λ x. Option Bool) [ yes e ↦ some (o.once && f) | no n ↦ given L row g k ]) (some false) → (given L row g k ≡ some false → InRow row g k) → InRow (o ∷ row) (f ∷ g) k
      go (yes q) e ih =
          let z : (o.once && f) ≡ false = cc in
          subst (InRow (o ∷ row) (f ∷ g)) (sym q) (here (o.once && f) refl z)
      go (no n) e ih =
          let x = ih e in
          record {
            test = x.test;
            known = x.known;
            flags = f ∷ x.flags;
            by = λ v. ap (λ (y : Option (Pay o.on)). take L o f g y (opt_at L row g (say L k v))) (none_of L o.on (say L k v) n) ∙ ap (onto f) (x.by v) ∙ judged-onto f (x.test v) x.flags;
          }

module _ {L : Lang} (A : Machine L) (Q : (k : L.Kind) → (L.Pay k → Bool) → Type 0) where
  open L use {Kind, Pay, disc}
  open A use {Base, opts, due, ready}

  -- the test of a kind at a place
  pub record Tested (p : Place A) (k : Kind) : Type 0 where
    pub test : Pay k → Bool
    pub known : Q k test
    pub by : (v : Pay k) → taken? (step A p (say L k v)) ≡ test v

  pub tested : (options : (b : Base) → Each (λ o. Q o.on o.test) (opts b)) (owed : (b : Base) → Q (due b).on (due b).test) (p : Place A) (k : Kind) → stands A p k ≡ none → Tested p k
  unfolding stands step guard
  tested options owed over k h = nothing (sym h)
  tested options owed (inside b g) k h = go (given L (opts b) g k) refl (disc k (due b).on) h
    where
      judged : (t : Bool) (f : List Bool) (s : S L) → taken? (settle A b g (judge false t f) s) ≡ t
      judged true f s = refl
      judged false f s = refl

      guarded : (t e : Bool) (q : Place A) → taken? (guard t 9 (guard e 25 (next q))) ≡ t
      guarded true true q = refl
      guarded true false q = refl
      guarded false e q = refl

      as-due : Tested (inside b g) (due b).on
      as-due = record {
        test = (due b).test;
        known = owed b;
        by = λ v. rw (no-option A (opts b) g (due b).on v (due-apart A b), as_same L (due b).on v) (guarded ((due b).test v) (ready b g) (enter A ((due b).then v)));
      }

      go : (x : Option Bool) → given L (opts b) g k ≡ x → (d : Dec (k ≡ (due b).on)) → of_row_of x (as_due d) ≡ none → Tested (inside b g) k
      go (some true) q d h = nothing (sym h)
      go (some false) q d h =
          let x = in_row L Q (opts b) g k q (options b) in
          record { test = x.test; known = x.known; by = λ v. rw (x.by v) (judged (x.test v) x.flags (say L k v)) }
      go none q (yes i) h = subst (Tested (inside b g)) (sym i) as-due
      go none q (no n) h = nothing (sym h)
