-- `said_line::kind_cut` meets its contract. Assumes nothing.
use mathlib.Core.Path.{ap, ◌∙◌}
use borrow.Author.Tests.{eq-eqb, ne_eqb}
use Rattle.place_table.proofs.Verdicts.{none-refuses, refused-by}
use Rattle.made_out.proofs.Whole.{needed, made}
use Rattle.judge.specs.Judging.{of_kind}
use Rattle.made_out.specs.Made.{made_from}
use Rattle.said_line.specs.Saying.{got_of}
use Rattle.said_line.proofs.Cuts.{cut-valued, at-most-three, few-told}
use Rattle.said_line.proofs.kind_cut.Goals as goal

pub returns-in-Err : goal.returns-in-Err
unfolding of_kind
returns-in-Err c =
    let r = refused-by _ _ c.refuses.result c.refuses.ensures c.in-Err.is in
    (rw (← c.cell-cell.ensures, ne_eqb _ 0 r.1, r.0), tt)

pub returns-then-f-fields_needed : goal.returns-then-f-fields_needed
unfolding of_kind
returns-then-f-fields_needed c =
    let A = c.args in
    let few = c.fields_needed.ensures ∙ needed A.kind c.requires.1 in
    let is = c.made_out.ensures ∙ made A.s.now A.base A.f A.kind c.requires.1 c.requires.0 in
    let stands = none-refuses _ c.refuses.result c.refuses.ensures c.in_default.is in (
      rw (← c.cell-cell.ensures, eq-eqb _ 0 stands, ← few, eq-eqb _ _ c.if-f-fields_needed.true, ← is)
          (ap (got_of A.table.now A.p) c.made_told.ensures ∙ cut-valued A.table.now A.p A.kind A.last c.cell-cell.result (made_from c.made_out.result) c.cell-cell.ensures stands),
      rw c.made_told.ensures (few-told A.f.count A.last A.kind (made_from c.made_out.result) (rw (c.if-f-fields_needed.true ∙ few) (at-most-three A.kind))),
    )

pub returns-else-f-fields_needed : goal.returns-else-f-fields_needed
unfolding of_kind
returns-else-f-fields_needed c =
    let few = c.fields_needed.ensures ∙ needed c.args.kind c.requires.1 in
    let stands = none-refuses _ c.refuses.result c.refuses.ensures c.in_default.is in
    (rw (← c.cell-cell.ensures, eq-eqb _ 0 stands, ← few, ne_eqb _ _ c.if-f-fields_needed.false), tt)
