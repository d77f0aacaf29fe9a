-- Executable: what stands in a row, where the first n rows have a keyword each, and those behind them have none. Assumes nothing.
use Rattle.std.specs.Prelude.{List, ℕ, get_or, ltb}
use Rattle.std.proofs.Math.Option.{Option, none, some}
use Rattle.terms.specs.Words.{pick}

abbrev pub of_row : {A : Type 0} → ℕ → List A → A → ℕ → Option A
of_row n l d i = pick (ltb i n) (some (get_or l i d)) none
