-- Where the entries of the exits start, and the rows that stand for the exits until their entries are looked up. Assumes nothing.
use mathlib.Core.List.{List, [], ◌∷◌, ◌++◌}
use mathlib.Core.Option.{Option, none, some}
use Prim.Native.Nat.{ℕ}
use Rattle.grammar.specs.Language.{as_kind}
use Rattle.grammar.specs.Statements.{Statement, lines, exit}
use Rattle.walk.specs.Standing.{Where}
use Rattle.rows.specs.declared.ExitRow.{ExitRow}

abbrev pub if_there : {A : Type 0} → Option A → ℕ → List ℕ
if_there none start = []
if_there (some a) start = start ∷ []

-- of statements that stand there, one on each place: where the last field of each exit starts, in file order
unfoldable pub exit-starts : {N : Type 0} → List Where → List (Statement N) → List ℕ
exit-starts [] [] = []
exit-starts [] (t ∷ ts) = []
exit-starts (w ∷ ws) [] = []
exit-starts {N} (w ∷ ws) (t ∷ ts) = if_there (as_kind (lines N) exit t) w.last ++ exit-starts ws ts

abbrev pub exit-at : (point start : ℕ) → ExitRow
exit-at point start = record { point = point; entry = start }

-- each exit's point, and the start of its entry in place of the entry's point
unfoldable pub exits-at : (points starts : List ℕ) → List ExitRow
exits-at [] [] = []
exits-at [] (s ∷ starts) = []
exits-at (p ∷ points) [] = []
exits-at (p ∷ points) (s ∷ starts) = exit-at p s ∷ exits-at points starts
