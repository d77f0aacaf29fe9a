-- What a writer answers, and how a lent output ends, once a writing went to it. The contracts of inner functions cite it. Assumes nothing.
use Rattle.std.specs.Prelude.{◌≡◌, ℕ, length, Some, None, Option}
use Rattle.terms.specs.Ascii.{Bytes}
use Rattle.output.specs.Output.{zero_bytes, Fits, padded}

-- 01: "All lent tables, and the writer's lent output, are then zero over their whole length"
-- An output of `lent` bytes to which this writing went ends as `out`, with this answer; `None` is refusal 19
pub record Output (lent : ℕ) (writing out : Bytes) (answer : Option ℕ) : Type 0 where
  pub good : Fits lent writing → (out ≡ padded lent writing) × (answer ≡ Some (length writing))
  pub refused : (Fits lent writing → ⊥) → (out ≡ zero_bytes lent) × (answer ≡ None)
