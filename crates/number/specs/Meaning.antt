-- What each answer of the program says of the field. `None` is 01's refusal 8: "field not of its kind (spelling ..)".
-- Assumes nothing.
use Rattle.std.specs.Prelude.{ℕ, Some, None, Option}
use Rattle.terms.specs.Ascii.{Bytes}
use Rattle.number.specs.Spelling.{SpellsInteger, SpellsPair, SpellsTriple}
use Rattle.number.specs.declared.Id.{Id}

unfoldable pub IntegerMeans : Bytes → Option ℕ → Type 0
IntegerMeans field (Some n) = SpellsInteger field n
IntegerMeans field None = (n : ℕ) → SpellsInteger field n → ⊥

unfoldable pub PairMeans : Bytes → Option (ℕ × ℕ) → Type 0
PairMeans field (Some (m, n)) = SpellsPair field m n
PairMeans field None = (m n : ℕ) → SpellsPair field m n → ⊥

unfoldable pub TripleMeans : Bytes → Option Id → Type 0
TripleMeans field (Some i) = SpellsTriple field i.x i.y i.z
TripleMeans field None = (x y z : ℕ) → SpellsTriple field x y z → ⊥
