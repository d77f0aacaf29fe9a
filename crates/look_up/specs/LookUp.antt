-- WHAT A READER MUST BELIEVE. The answer of the look-up. Assumes nothing.
use Rattle.std.specs.Prelude.{◌≡◌, ◌∷◌, ◌⊎◌, ◌*◌, ◌<◌}
use Rattle.terms.specs.Words.{List, [], ℕ, take, drop}

-- 01: "Checkpoint: number, point.": row i of the table t is these two words. Behind the last whole row there is none
abbrev pub Row : List ℕ → ℕ → ℕ → ℕ → Type 0
Row t i number point = take 2 (drop (i * 2) t) ≡ number ∷ point ∷ []

-- no row before row i has the number
abbrev pub NoneBefore : List ℕ → ℕ → ℕ → Type 0
NoneBefore t i number = (j point : ℕ) → j < i → Row t j number point → ⊥

-- 01: "The look-up takes any checkpoint table: the point of the first row with that number, or 4,294,967,295 if there is none or the number is 0."
pub data PointOf (t : List ℕ) (number answer : ℕ) : Type 0 where
  first_row : (i : ℕ) → (number ≡ 0 → ⊥) → Row t i number answer → NoneBefore t i number → PointOf t number answer
  no_row : (number ≡ 0) ⊎ ((i point : ℕ) → Row t i number point → ⊥) → answer ≡ 4294967295 → PointOf t number answer
