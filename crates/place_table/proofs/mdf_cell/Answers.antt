-- `place_table::mdf_cell` meets its contract. Assumes nothing.
use borrow.Author.Tests.{lt-ltb, le-ltb}
use Rattle.place_table.specs.Cells.{cell_in}
use Rattle.place_table.proofs.mdf_cell.Goals as goal
use Rattle.place_table.proofs.mdf_cell.Goals.{else-at-lt12-via-then-at-lt12+else-column-lt13, else-at-lt12-via-else-at-lt12}

pub returns-then-column-lt13 : goal.returns-then-column-lt13
unfolding cell_in
returns-then-column-lt13 c = rw (lt-ltb _ 12 c.if-at-lt12.true, lt-ltb _ 13 c.if-column-lt13.true)

pub returns-else-at-lt12 : goal.returns-else-at-lt12
unfolding cell_in
returns-else-at-lt12 c =
    elim c.else-at-lt12.branch [ else-at-lt12-via-then-at-lt12+else-column-lt13 w ↦ rw (lt-ltb _ 12 w.if-at-lt12.true, le-ltb _ 13 w.if-column-lt13.false) | else-at-lt12-via-else-at-lt12 w ↦ rw (le-ltb _ 12 w.if-at-lt12.false) ]
