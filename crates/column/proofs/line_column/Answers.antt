-- `column::line_column` meets its contract. Assumes nothing.
use mathlib.Core.Path.{sym}
use lib.Seq.{length-take-le}
use Rattle.line.proofs.Ends.{trim_le}
use Rattle.columns.specs.Locating.{line_column_of}
use Rattle.column.proofs.line_column.Goals as goal

pub slice_bounds-content_column-end : goal.slice_bounds-content_column-end
slice_bounds-content_column-end c =
    let s = c.args.s.now in
    sym (length-take-le c.trimmed-e.result s (rw c.trimmed-e.ensures (trim_le s)))

pub returns : goal.returns
unfolding line_column_of
returns c = rw (← c.trimmed-e.ensures) c.content_column.ensures
