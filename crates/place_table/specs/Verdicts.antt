-- What becomes of a statement, by the number that refuses it, of which 0 is none. Assumes nothing.
use Rattle.std.specs.Prelude.{ℕ, eqb, ⊤, Ok, Err, Result}
use Rattle.terms.specs.Words.{pick}

unfoldable pub verdict_of : ℕ → Result ⊤ ℕ
verdict_of n = pick (eqb n 0) (Ok tt) (Err n)
