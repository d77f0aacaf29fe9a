-- `place_table::rndf_cell` meets its contract. Assumes nothing.
use borrow.Author.Tests.{lt-ltb, le-ltb}
use Rattle.place_table.specs.Cells.{cell_in}
use Rattle.place_table.proofs.rndf_cell.Goals as goal
use Rattle.place_table.proofs.rndf_cell.Goals.{else-at-lt27-via-then-at-lt27+else-column-lt30, else-at-lt27-via-else-at-lt27}

pub returns-then-column-lt30 : goal.returns-then-column-lt30
unfolding cell_in
returns-then-column-lt30 c = rw (lt-ltb _ 27 c.if-at-lt27.true, lt-ltb _ 30 c.if-column-lt30.true)

pub returns-else-at-lt27 : goal.returns-else-at-lt27
unfolding cell_in
returns-else-at-lt27 c =
    elim c.else-at-lt27.branch [ else-at-lt27-via-then-at-lt27+else-column-lt30 w ↦ rw (lt-ltb _ 27 w.if-at-lt27.true, le-ltb _ 30 w.if-column-lt30.false) | else-at-lt27-via-else-at-lt27 w ↦ rw (le-ltb _ 27 w.if-at-lt27.false) ]
