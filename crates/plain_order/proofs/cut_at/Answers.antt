-- `plain_order::cut_at` meets its contract. Assumes nothing.
use native.Mathlib.Omega.{arith}
use Rattle.plain_order.proofs.Lines.{within, cut-blank, cut-said, cut-bad}
use Rattle.plain_order.proofs.cut_at.Goals as goal

pub slice_bounds-mission_judge_line-end : goal.slice_bounds-mission_judge_line-end
slice_bounds-mission_judge_line-end c =
    omega (arith, within c.args.text.now c.args.from c.far_byte_from-e.result c.requires c.far_byte_from-e.ensures)

pub returns-in-Blank : goal.returns-in-Blank
returns-in-Blank c =
    let A = c.args in
    λ few. (c.far_byte_from-e.ensures, cut-blank A.table.now A.text.now few A.from c.far_byte_from-e.result c.requires c.far_byte_from-e.ensures A.p c.mission_judge_line.result c.mission_judge_line.ensures c.in-Blank.is)

pub returns-in-Said : goal.returns-in-Said
returns-in-Said c =
    let A = c.args in
    λ few. (c.far_byte_from-e.ensures, cut-said A.table.now A.text.now few A.from c.far_byte_from-e.result c.requires c.far_byte_from-e.ensures A.p c.mission_judge_line.result c.mission_judge_line.ensures c.in-Said.s c.in-Said.q c.in-Said.is)

pub returns-in-Bad : goal.returns-in-Bad
returns-in-Bad c =
    let A = c.args in
    λ few. rw (← c.far_byte_from-e.ensures) (cut-bad A.table.now A.text.now few A.from c.far_byte_from-e.result c.requires c.far_byte_from-e.ensures A.p c.mission_judge_line.result c.mission_judge_line.ensures c.in-Bad.n c.in-Bad.is)
