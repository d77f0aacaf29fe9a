-- Executable: whether a kind of statement may stand at a place, whatever it says: 5 where it may not, 6 where it is a single option that was given. Assumes nothing.
use Rattle.std.specs.Prelude.{◌≡◌, List, [], ◌∷◌, Bool, true, false, ◌&&◌, ℕ}
use Rattle.std.proofs.Math.Option.{Option, none, some}
use Rattle.grammar.specs.Language.{Lang}
use Rattle.grammar.specs.Machine.{Opt, Machine, over, inside, Place}

-- of a row of options: is it among them, and was it given and may come once only
abbrev pub given : (L : Lang) → List (Opt L.Kind L.Pay) → List Bool → L.Kind → Option Bool
given L [] g k = none
given L (o ∷ row) [] k = none
given L (o ∷ row) (f ∷ g) k = elim (L.disc k o.on) [ yes e ↦ some (o.once && f) | no n ↦ given L row g k ]

abbrev pub as_due : {Kind : Type 0} {k j : Kind} → Dec (k ≡ j) → Option ℕ
as_due (yes e) = none
as_due (no n) = some 5

abbrev pub of_row_of : Option Bool → Option ℕ → Option ℕ
of_row_of (some true) d = some 6
of_row_of (some false) d = none
of_row_of none d = d

module _ {L : Lang} (A : Machine L) where
  unfoldable pub stands : Place A → L.Kind → Option ℕ
  stands over k = some 5
  stands (inside b g) k = of_row_of (given L (A.opts b) g k) (as_due (L.disc k (A.due b).on))
