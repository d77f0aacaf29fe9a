-- Executable: the search by halving that contracts cite, over any column and over a table's first words. What it finds where the column is parted is a law (proofs/Halving). Assumes nothing.
use Rattle.terms.specs.Words.{List, ℕ, zero, suc, length, ltb, pick}
use Rattle.std.specs.Prelude.{min, get_or, ◌+◌, ◌-◌, ◌*◌, ◌/◌}
use Rattle.rows.specs.Lay.{rows_of}

-- of `left` rows from row `low` on the first that is not below `least`: the row in the middle says in which half to go on. halvings: so many at most
unfoldable pub halved : (column : ℕ → ℕ) → (least halvings low left : ℕ) → ℕ
halved column least zero low left = low
halved column least (suc halvings) low zero = low
halved column least (suc halvings) low (suc left) = pick (ltb (column (low + suc left / 2)) least)
    (halved column least halvings (suc (low + suc left / 2)) (left - suc left / 2))
    (halved column least halvings low (suc left / 2))

-- the first word of a row
unfoldable pub first_word : List ℕ → (stride row : ℕ) → ℕ
first_word table stride row = get_or table (row * stride) 0

-- the rows that are there of so many
abbrev pub rows_there_of : List ℕ → (stride count : ℕ) → ℕ
rows_there_of table stride count = min count (rows_of (length table) stride)

-- of the first `count` rows of a table the first whose first word is not below `least`
abbrev pub first_row_from_of : List ℕ → (stride count least : ℕ) → ℕ
first_row_from_of table stride count least = halved (first_word table stride) least (rows_there_of table stride count) 0 (rows_there_of table stride count)
