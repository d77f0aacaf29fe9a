-- `read_rows::row_words` meets its contract. Assumes nothing.
use mathlib.Core.Path.{sym}
use native.Mathlib.Nat.{add-sub_cancel_left}
use Rattle.rows.proofs.Lay.{row_inside, row-outside}
use Rattle.read_rows.proofs.row_words.Goals as goal

pub returns-then-row-rows_of : goal.returns-then-row-rows_of
returns-then-row-rows_of g c =
    let a = c.args in
    rw (row_inside a.stride a.t.now a.row (rw c.rows_of.ensures at c.if-row-rows_of.true), add-sub_cancel_left)

pub returns-else-row-rows_of : goal.returns-else-row-rows_of
returns-else-row-rows_of g c =
    let a = c.args in
    sym (row-outside a.stride a.t.now a.row (rw c.rows_of.ensures at c.if-row-rows_of.false))
