-- Executable: what the rows of a table say, as `read_rows` reads them. Assumes nothing.
use Rattle.std.specs.Prelude.{List, [], ◌∷◌, ◌++◌, ℕ, zero, suc}
use Rattle.rows.specs.Read.{checkpoint_at_of, goal_at_of, limit_at_of}

-- a checkpoint's number, a goal's number, a limit's id, in row i of a table
abbrev pub checkpoint_says : List ℕ → ℕ → ℕ
checkpoint_says t i = (checkpoint_at_of t i).number.0

abbrev pub goal_says : List ℕ → ℕ → ℕ
goal_says t i = (goal_at_of t i).number.0

abbrev pub limit_says : List ℕ → ℕ → ℕ
limit_says t i = (limit_at_of t i).id.0

-- what the first n rows say, in file order
unfoldable pub said : (ℕ → ℕ) → ℕ → List ℕ
said says zero = []
said says (suc n) = said says n ++ (says n ∷ [])
