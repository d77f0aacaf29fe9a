-- Executable: rows made cell by cell, and the cell of a place and a kind, in any table. Assumes nothing.
use Rattle.std.specs.Prelude.{List, [], ℕ, get_or, set, replicate, ltb}
use Rattle.terms.specs.Words.{pick}

-- a place where one statement is due, which leads to the row `next`
abbrev pub due_row : (kind next : ℕ) → List ℕ
due_row kind next = set (replicate 30 255) kind next

-- the same place with an option
abbrev pub also_row : List ℕ → (kind option : ℕ) → List ℕ
also_row row kind option = set row kind option

-- the cell in a table of so many rows and columns; 255, refused, where there is no such place or kind
unfoldable pub cell_in : (rows columns : ℕ) → List (List ℕ) → (row kind : ℕ) → ℕ
cell_in rows columns table row kind = pick (ltb row rows) (pick (ltb kind columns) (get_or (get_or table row []) kind 0) 255) 255
