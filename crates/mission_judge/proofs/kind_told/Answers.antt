-- `mission_judge::kind_told` meets its contract. Assumes nothing.
use mathlib.Core.Path.{◌∙◌}
use borrow.Author.Tests.{eq-eqb, ne_eqb}
use Rattle.made_out.proofs.Whole.{order-needed, order-made}
use Rattle.place_table.proofs.Verdicts.{none-refuses, refused-by}
use Rattle.judge.specs.Judging.{of_kind}
use Rattle.mission_judge.proofs.kind_told.Goals as goal

pub returns-in-Err : goal.returns-in-Err
unfolding of_kind
returns-in-Err c =
    let r = refused-by _ _ c.refuses.result c.refuses.ensures c.in-Err.is in
    rw (← c.cell-cell.ensures, ne_eqb _ 0 r.1, r.0)

pub returns-then-f-order_fields_needed : goal.returns-then-f-order_fields_needed
unfolding of_kind
returns-then-f-order_fields_needed c =
    let A = c.args in
    let few = c.order_fields_needed.ensures ∙ order-needed A.kind c.requires.1 in
    let is = c.order_made_out.ensures ∙ order-made A.s.now A.base A.f A.kind c.requires.1 c.requires.0 in
    let stands = none-refuses _ c.refuses.result c.refuses.ensures c.in_default.is in
    rw (← c.cell-cell.ensures, eq-eqb _ 0 stands, ← few, eq-eqb _ _ c.if-f-order_fields_needed.true, ← is) c.values_told.ensures

pub returns-else-f-order_fields_needed : goal.returns-else-f-order_fields_needed
unfolding of_kind
returns-else-f-order_fields_needed c =
    let few = c.order_fields_needed.ensures ∙ order-needed c.args.kind c.requires.1 in
    let stands = none-refuses _ c.refuses.result c.refuses.ensures c.in_default.is in
    rw (← c.cell-cell.ensures, eq-eqb _ 0 stands, ← few, ne_eqb _ _ c.if-f-order_fields_needed.false)
