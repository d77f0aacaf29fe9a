-- `mission_column::kind_field` meets its contract. Assumes nothing.
use mathlib.Core.Path.{◌∙◌}
use borrow.Author.Tests.{eq-eqb, ne_eqb}
use Rattle.made_out.proofs.Whole.{order-needed}
use Rattle.place_table.proofs.Verdicts.{none-refuses, refused-by}
use Rattle.columns.specs.Locating.{kind_field_of}
use Rattle.mission_column.proofs.kind_field.Goals as goal

pub returns-in_default : goal.returns-in_default
unfolding kind_field_of
returns-in_default c =
    let r = refused-by _ _ c.refuses.result c.refuses.ensures c.in_default.is in
    rw (← c.cell-cell.ensures, ne_eqb _ 0 r.1)

pub wrong-requires : goal.wrong-requires
wrong-requires c = c.requires.0

pub returns-then-f-order_fields_needed : goal.returns-then-f-order_fields_needed
unfolding kind_field_of
returns-then-f-order_fields_needed c =
    let few = c.order_fields_needed.ensures ∙ order-needed c.args.kind c.requires.1 in
    let stands = none-refuses _ c.refuses.result c.refuses.ensures c.in-Ok.is in
    rw (← c.cell-cell.ensures, eq-eqb _ 0 stands, ← few, eq-eqb _ _ c.if-f-order_fields_needed.true) c.wrong.ensures

pub returns-else-f-order_fields_needed : goal.returns-else-f-order_fields_needed
unfolding kind_field_of
returns-else-f-order_fields_needed c =
    let few = c.order_fields_needed.ensures ∙ order-needed c.args.kind c.requires.1 in
    let stands = none-refuses _ c.refuses.result c.refuses.ensures c.in-Ok.is in
    rw (← c.cell-cell.ensures, eq-eqb _ 0 stands, ← few, ne_eqb _ _ c.if-f-order_fields_needed.false)
