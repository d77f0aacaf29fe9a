-- Rows of a checkpoint table that have another number: what is asked of several rows at once. Executable. Assumes nothing.
use Rattle.std.specs.Prelude.{List, Bool, true, not, ◌&&◌, ℕ, zero, suc, ◌*◌, eqb, get_or}
use Rattle.rows.specs.Strides.{checkpoint_stride}

-- the n rows from row i on
unfoldable pub others : List ℕ → (number i n : ℕ) → Bool
others t number i zero = true
others t number i (suc n) = not (eqb (get_or t (i * checkpoint_stride) 0) number) && others t number (suc i) n
