-- How the rows of a table lie in a flat slice of numbers. Assumes nothing.
use Rattle.std.specs.Prelude.{List, [], ◌++◌, ℕ, ◌+◌, ◌*◌, ◌/◌, length, take, drop, ltb}
use Rattle.terms.specs.Words.{pick}

-- Readings, 16: "A lent table is a slice of numbers, so many to a row (its stride); it has length / stride rows"
abbrev pub rows_of : ℕ → ℕ → ℕ
rows_of len stride = len / stride

-- 01: "All rows stand in file order, indexes from 0." Row i is the `stride` words from i * stride on; where there is no such row, no words
unfoldable pub row_at : {A : Type 0} → ℕ → List A → ℕ → List A
row_at stride t row = pick (ltb row (rows_of (length t) stride)) (take stride (drop (row * stride) t)) []

-- the table with other words in that row; where there is no such row, the table as it was
unfoldable pub put_row_of : {A : Type 0} → ℕ → List A → ℕ → List A → List A
put_row_of stride t row words = pick (ltb row (rows_of (length t) stride)) (take (row * stride) t ++ words ++ drop (row * stride + stride) t) t
