-- What is kept along the places: if every permitted due statement leads from a good base to a good one, every place that is reached is good. Assumes nothing.
use mathlib.Core.Path.{◌≡◌, subst}
use mathlib.Core.List.{List, [], ◌∷◌}
use mathlib.Core.Option.{Option, none, some}
use mathlib.Core.Bool.{Bool, true, false}
use Prim.Native.Nat.{ℕ}
use lib.Dec.{T}
use Rattle.grammar.specs.Language.{Lang, S, as_kind}
use Rattle.grammar.specs.Machine.{Out, next, refuse, Verdict, other, bad, good, opt_at, Machine, over, inside, guard, and_then, Place, enter, hit, settle, step, run}

module _ {L : Lang} (A : Machine L) where
  open L use {Kind, Pay}
  open A use {Base, opts, due, ready}

  -- ## What good bases keep
  module _ (Good : Base → Type 0) where
    abbrev pub GoodNext : Option Base → Type 0
    GoodNext none = Unit {0}
    GoodNext (some b) = Good b

    abbrev pub GoodPlace : Place A → Type 0
    GoodPlace over = Unit {0}
    GoodPlace (inside b g) = Good b

    abbrev pub GoodOut : Out (Place A) → Type 0
    GoodOut (next p) = GoodPlace p
    GoodOut (refuse c) = Unit {0}

    module _ (keeps : (b : Base) → Good b → (v : Pay (due b).on) → T ((due b).test v) → GoodNext ((due b).then v)) where
      enter-good : (n : Option Base) → GoodNext n → GoodPlace (enter A n)
      enter-good none y = y
      enter-good (some b) y = y

      guard_good : (t : Bool) (c : ℕ) (o : Out (Place A)) → (T t → GoodOut o) → GoodOut (guard t c o)
      unfolding guard
      guard_good true c o y = y tt
      guard_good false c o y = tt

      step-good : (p : Place A) (s : S L) → GoodPlace p → GoodOut (step A p s)
      unfolding step
      step-good over s y = tt
      step-good (inside b g) s y = go (opt_at L (opts b) g s)
        where
          hit-good : (o : Option (Pay (due b).on)) → GoodOut (hit A b g o)
          hit-good none = tt
          hit-good (some v) = guard_good ((due b).test v) 9 (guard (ready b g) 25 (next (enter A ((due b).then v)))) λ t. guard_good (ready b g) 25 (next (enter A ((due b).then v))) λ r. enter-good ((due b).then v) (keeps b y v t)

          go : (x : Verdict) → GoodOut (settle A b g x s)
          go other = hit-good (as_kind L (due b).on s)
          go (bad c) = tt
          go (good g') = y

      pub good-step : (p q : Place A) (s : S L) → GoodPlace p → step A p s ≡ next q → GoodPlace q
      good-step p q s y e = subst GoodOut e (step-good p s y)

      pub run-good : (p : Place A) (l : List (S L)) → GoodPlace p → GoodOut (run A p l)
      unfolding run
      run-good p [] y = y
      run-good p (s ∷ l) y = go (step A p s) (step-good p s y) (λ q. run-good q l)
        where
          go : (o : Out (Place A)) → GoodOut o → ((q : Place A) → GoodPlace q → GoodOut (run A q l)) → GoodOut (and_then o (λ q. run A q l))
          go (next q) w ih = ih q w
          go (refuse c) w ih = tt
