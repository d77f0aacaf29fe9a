-- Of a kind that may stand at a place, L8 aside: its form is among those that are listed there. For every file. Assumes nothing.
use mathlib.Core.Path.{◌≡◌, refl, sym, ap, subst, ◌∙◌}
use mathlib.Core.List.{List, [], ◌∷◌, map}
use mathlib.Core.Option.{Option, none, some}
use mathlib.Core.Bool.{Bool, true, false, ◌&&◌}
use mathlib.Core.Logic.{◌⊎◌, inl, inr}
use Rattle.terms.specs.Words.{Among}
use Rattle.terms.proofs.Tests.{nothing, clash}
use Rattle.grammar.specs.Language.{Lang}
use Rattle.grammar.specs.Machine.{Opt, Machine, inside}
use Rattle.grammar.specs.Stands.{given, as_due, of_row_of, stands}
use Rattle.expected_law.specs.Expected.{Form}
use Rattle.expected_exact.specs.Listed.{if_open, open_options}

module _ (L : Lang) (form : L.Kind → Form) where
  open L use {Kind, Pay, disc}

  in_row : (row : List (Opt Kind Pay)) (g : List Bool) (k : Kind) → given L row g k ≡ some false → Among (form k) (open_options L row g (map (λ o. form o.on) row))
  in_row [] g k e = nothing e
  in_row (o ∷ row) [] k e = nothing e
  in_row (o ∷ row) (f ∷ g) k e = go (disc k o.on) e (in_row row g k)
    where
      rest : List Form
      rest = open_options L row g (map (λ o. form o.on) row)

      here : (b : Bool) → some b ≡ some false → form k ≡ form o.on → Among (form k) (if_open b (form o.on) rest)
      here true e i = clash (let z : true ≡ false = cc in z)
      here false e i = inl i

      further : (b : Bool) → Among (form k) rest → Among (form k) (if_open b (form o.on) rest)
      further true m = m
      further false m = inr m

      go : (d : Dec (k ≡ o.on)) → ◌≡◌ {A = Option Bool} (elim d as (λ x. Option Bool) [ yes e ↦ some (o.once && f) | no n ↦ given L row g k ]) (some false) → (given L row g k ≡ some false → Among (form k) rest) → Among (form k) (if_open (o.once && f) (form o.on) rest)
      go (yes q) e ih = here (o.once && f) e (ap form q)
      go (no n) e ih = further (o.once && f) (ih e)

  -- it is the due statement or an open option
  pub among-listed : (A : Machine L) (b : A.Base) (g : List Bool) (k : Kind) → stands A (inside b g) k ≡ none → Among (form k) (form (A.due b).on ∷ open_options L (A.opts b) g (map (λ o. form o.on) (A.opts b)))
  unfolding stands
  among-listed A b g k e = go (given L (A.opts b) g k) refl (disc k (A.due b).on) e
    where
      go : (x : Option Bool) → given L (A.opts b) g k ≡ x → (d : Dec (k ≡ (A.due b).on)) → of_row_of x (as_due d) ≡ none → Among (form k) (form (A.due b).on ∷ open_options L (A.opts b) g (map (λ o. form o.on) (A.opts b)))
      go (some true) q d e = nothing (sym e)
      go (some false) q d e = inr (in_row (A.opts b) g k q)
      go none q (yes i) e = inl (ap form i)
      go none q (no n) e = nothing (sym e)
