-- `word::word_at` meets its contract: the row, with its parts named. Assumes nothing.
use mathlib.Core.Path.{ap}
use Rattle.word.specs.Table.{of_row_of}
use Rattle.word.proofs.word_at.Goals as goal

pub returns : goal.returns
returns c = ap of_row_of c.row_at-row.ensures
