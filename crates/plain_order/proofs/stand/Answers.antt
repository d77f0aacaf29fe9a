-- `plain_order::stand` meets its contract. Assumes nothing.
use borrow.Author.Tests.{eq-eqb, ne_eqb}
use Rattle.place_table.proofs.Verdicts.{none-refuses, refused-by}
use Rattle.plain_fields.specs.LineStands.{stated}
use Rattle.plain_order.proofs.stand.Goals as goal

pub returns-in-Err : goal.returns-in-Err
unfolding stated
returns-in-Err c =
    let r = refused-by _ _ c.refuses.result c.refuses.ensures c.in-Err.is in
    rw (← c.cell-cell.ensures, ne_eqb _ 0 r.1, r.0)

pub returns : goal.returns
unfolding stated
returns c =
    let stands = none-refuses _ c.refuses.result c.refuses.ensures c.in_default.is in
    rw (← c.cell-cell.ensures, eq-eqb _ 0 stands, ← c.step.ensures)
