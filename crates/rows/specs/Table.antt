-- What a whole table holds, given its rows. Assumes nothing.
use Rattle.std.specs.Prelude.{List, [], ◌∷◌, ◌++◌, ℕ, suc, ◌-◌, length, replicate}
use Rattle.rows.specs.Lay.{put_row_of}

-- 01: "All rows stand in file order": the words of all rows, one row behind the other
unfoldable pub flat : {R X : Type 0} → (R → List X) → List R → List X
flat words [] = []
flat words (r ∷ rs) = words r ++ flat words rs

-- 01: "rows beyond are zero", also what is left over behind the last whole row: a lent slice of `len` numbers that holds these rows
unfoldable pub table_of : {R X : Type 0} → X → (R → List X) → ℕ → List R → List X
table_of nought words len rs = flat words rs ++ replicate (len - length (flat words rs)) nought

-- what a filling loop leaves: rows stored one by one, from row `at` on
unfoldable pub put_rows : {R X : Type 0} → ℕ → (R → List X) → List X → ℕ → List R → List X
put_rows stride words t at [] = t
put_rows stride words t at (r ∷ rs) = put_rows stride words (put_row_of stride t at (words r)) (suc at) rs
