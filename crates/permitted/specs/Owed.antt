-- Executable: the row of a place, by what is owed there. Assumes nothing.
use Rattle.std.specs.Prelude.{ℕ, zero, suc}

abbrev pub owing : (owed more done : ℕ) → ℕ
owing zero more done = done
owing (suc n) more done = more
