-- WHAT A READER MUST BELIEVE. Numbers in a packed form: so many bytes, the high one first. Assumes nothing.
use Rattle.std.specs.Prelude.{◌∷◌, ◌++◌, ◌/◌, ◌%◌}
use Rattle.terms.specs.Words.{[], ℕ, zero, suc, Bytes}

-- the last k bytes of a number: `big_endian 4 258` is 0, 0, 1, 2
unfoldable pub big_endian : ℕ → ℕ → Bytes
big_endian zero n = []
big_endian (suc k) n = big_endian k (n / 256) ++ (n % 256 ∷ [])
