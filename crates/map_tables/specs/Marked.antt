-- Executable: things one behind the other, the first of them the i-th of its list, each but that list's first with a comma in front. Assumes nothing.
use Rattle.std.specs.Prelude.{◌∷◌, ◌++◌}
use Rattle.terms.specs.Words.{List, [], ℕ, suc, Bytes}
use Rattle.features.specs.Drawn.{comma_from}

unfoldable pub marks : ℕ → List Bytes → Bytes
marks i [] = []
marks i (b ∷ l) = comma_from i ++ (b ++ marks (suc i) l)
