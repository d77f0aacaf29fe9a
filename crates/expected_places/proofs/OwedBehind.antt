-- What is to be told where whole lines are: a list that is exact, and how many are owed where it has one form. Assumes nothing.
use mathlib.Core.Path.{◌≡◌, refl, sym, subst}
use mathlib.Core.List.{List, [], ◌∷◌}
use Prim.Native.Nat.{ℕ, zero, suc, ◌<◌}
use native.Mathlib.Omega.{arith}
use Rattle.law.specs.Network.{Line, Rules}
use Rattle.expected_law.specs.Expected.{Form, ListsLines, StillOwed, lines, ExpectedBehind, without_count, with_count}

module _ (rules : Rules) {Net : Type 0} (Spells : Rules → Net → List Line → Type 0) (before : List Line) where
  pub behind-owed : (forms : List Form) (owed : ℕ) → ListsLines rules Spells before forms → (0 < owed → (form : Form) × (forms ≡ form ∷ [])) → (0 < owed → StillOwed rules Spells before owed) → ExpectedBehind rules Spells before (lines owed forms)
  behind-owed forms zero h one owed = without_count h
  behind-owed forms (suc k) h one owed =
      let x = one (omega arith) in
      subst (λ (l : List Form). ExpectedBehind rules Spells before (lines (suc k) l)) (sym x.1) (with_count (subst (ListsLines rules Spells before) x.1 h) (owed (omega arith)))
