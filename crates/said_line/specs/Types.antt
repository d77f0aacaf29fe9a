-- What a line that is not blank says, as Rust's `Result`. Assumes nothing.
use Rattle.std.specs.Prelude.{ℕ, Result}
use Rattle.statement.specs.declared.Statement.{Statement}

-- One statement, with its kind, the line's end, and where its last field starts; or the number that refuses it.
abbrev pub Said : Type 0
Said = Result (ℕ × Statement × ℕ × ℕ) ℕ
