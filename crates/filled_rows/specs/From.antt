-- What a reading gives from a row on. Assumes nothing.
use Rattle.std.specs.Prelude.{◌≡◌, ◌∷◌}
use Rattle.terms.specs.Words.{List, [], ℕ, suc}

-- from row i on these are read
abbrev pub From : {R : Type 0} → (read : ℕ → R) → ℕ → List R → Type 0
From read i [] = Unit {0}
From read i (r ∷ l) = (read i ≡ r) × From read (suc i) l
