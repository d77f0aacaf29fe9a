-- Executable: tables are filled by one statement after the other. Each gives rows, and the state in which the next one finds the tables. For any sort of statements.
use Rattle.std.specs.Prelude.{List, [], ◌∷◌}
use Rattle.grammar.specs.Language.{Lang, S}

-- State: what a statement has to know of those before it. Rows: rows of all tables; `join`: rows behind rows, table by table
pub record Filling (L : Lang) : Type 1 where
  pub State : Type 0
  pub Rows : Type 0
  pub no_rows : Rows
  pub join : Rows → Rows → Rows
  pub next : (k : L.Kind) → L.Pay k → State → State
  pub gives : (k : L.Kind) → L.Pay k → State → Rows

module _ {L : Lang} (F : Filling L) where
  abbrev pub step : S L → F.State → F.State
  step x s = F.next x.kind x.val s

  abbrev pub given : S L → F.State → F.Rows
  given x s = F.gives x.kind x.val s

  -- the state behind the last statement
  unfoldable pub ends : List (S L) → F.State → F.State
  ends [] s = s
  ends (x ∷ l) s = ends l (step x s)

  -- the rows on the way
  unfoldable pub rows : List (S L) → F.State → F.Rows
  rows [] s = F.no_rows
  rows (x ∷ l) s = F.join (given x s) (rows l (step x s))
