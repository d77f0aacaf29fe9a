-- A statement whose kind may stand is refused with 9 or 25 only. For every file. Assumes nothing.
use mathlib.Core.Path.{◌≡◌, refl, sym, ap, ◌∙◌}
use mathlib.Core.List.{List, [], ◌∷◌}
use mathlib.Core.Option.{Option, none, some}
use mathlib.Core.Bool.{Bool, true, false, ◌&&◌}
use mathlib.Core.Logic.{◌⊎◌, inl, inr}
use Prim.Native.Nat.{ℕ}
use native.Mathlib.Omega.{arith}
use borrow.Author.Tests.{eqb-true, eqb-false}
use lib.Dec.{eqb}
use Rattle.terms.specs.Words.{pick}
use Rattle.grammar.specs.Language.{Lang, S, say, as_kind}
use Rattle.grammar.specs.Machine.{Out, next, refuse, Opt, Verdict, other, bad, good, judge, onto, take, opt_at, guard, Machine, over, inside, Place, enter, hit, settle, step}
use Rattle.grammar.specs.Stands.{stands}
use Rattle.grammar.proofs.StandLaws.{early, number_of, early-stands}

-- no refusal has the number 0
abbrev Numbered : Verdict → Type 0
Numbered other = Unit {0}
Numbered (bad c) = eqb c 0 ≡ false
Numbered (good g) = Unit {0}

abbrev NumberedOut : {P : Type 0} → Out P → Type 0
NumberedOut (next p) = Unit {0}
NumberedOut (refuse c) = eqb c 0 ≡ false

judged : (given t : Bool) (g : List Bool) → Numbered (judge given t g)
judged true t g = refl
judged false true g = tt
judged false false g = refl

under : (f : Bool) (v : Verdict) → Numbered v → Numbered (onto f v)
under f other h = tt
under f (bad c) h = h
under f (good g) h = tt

module _ {L : Lang} (A : Machine L) where
  open L use {Kind, Pay}
  open A use {opts, due}

  taken : (o : Opt Kind Pay) (f : Bool) (g : List Bool) (x : Option (Pay o.on)) (v : Verdict) → Numbered v → Numbered (take L o f g x v)
  taken o f g (some w) v h = judged (o.once && f) (o.test w) (o.once ∷ g)
  taken o f g none v h = under f v h

  by_row : (row : List (Opt Kind Pay)) (g : List Bool) (s : S L) → Numbered (opt_at L row g s)
  by_row [] g s = tt
  by_row (o ∷ row) [] s = tt
  by_row (o ∷ row) (f ∷ g) s = taken o f g (as_kind L o.on s) (opt_at L row g s) (by_row row g s)

  numbered : (p : Place A) (s : S L) → NumberedOut (step A p s)
  unfolding step guard
  numbered over s = refl
  numbered (inside b g) s = go (opt_at L (opts b) g s) (by_row (opts b) g s)
    where
      guarded : (t r : Bool) (q : Place A) → NumberedOut (guard t 9 (guard r 25 (next q)))
      guarded true true q = tt
      guarded true false q = refl
      guarded false r q = refl

      hits : (x : Option (Pay (due b).on)) → NumberedOut (hit A b g x)
      hits (some v) = guarded ((due b).test v) (A.ready b g) (enter A ((due b).then v))
      hits none = refl

      go : (v : Verdict) → Numbered v → NumberedOut (settle A b g v s)
      go other h = hits (as_kind L (due b).on s)
      go (bad c) h = h
      go (good g') h = tt

  pub nine-or_25 : (p : Place A) (k : Kind) (v : Pay k) (c : ℕ) → stands A p k ≡ none → step A p (say L k v) ≡ refuse c → (c ≡ 9) ⊎ (c ≡ 25)
  nine-or_25 p k v c s e = go (eqb c 9) (eqb c 25) refl refl (sym (ap early e) ∙ early-stands A p k v ∙ ap number_of s) (rw e at (numbered p (say L k v)))
    where
      go : (b d : Bool) → eqb c 9 ≡ b → eqb c 25 ≡ d → pick b 0 (pick d 0 c) ≡ 0 → eqb c 0 ≡ false → (c ≡ 9) ⊎ (c ≡ 25)
      go true d q r z n = inl (eqb-true c 9 q)
      go false true q r z n = inr (eqb-true c 25 r)
      go false false q r z n = absurd (eqb-false c 0 n z)
