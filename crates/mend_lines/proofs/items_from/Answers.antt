-- `mend_lines::items_from` meets its contract. Assumes nothing.
use native.Mathlib.Omega.{arith}
use borrow.Author.Tests.{eq-eqb, ne_eqb}
use Rattle.scan.proofs.Reach.{reach_le}
use Rattle.scan.specs.declared.Until.TheVariants.{Byte}
use Rattle.scan.specs.Reach.{stops_by}
use Rattle.mend_lines.proofs.Ahead.{an_item, no_item}
use Rattle.mend_lines.proofs.items_from.Goals as goal
use Rattle.mend_lines.proofs.items_from.Goals.{then-kind-item, else-kind-item}

pub loop-from-init : goal.loop-from-init
loop-from-init c = (omega arith, omega arith)

pub slice_bounds-line_kind-end : goal.slice_bounds-line_kind-end
slice_bounds-line_kind-end c = let s = c.args.text.now in let l = c.loop-from.from in omega (arith, c.far_byte_from-e.ensures, reach_le (stops_by (Byte 10)) s l (omega arith))

pub returns-then-kind-end : goal.returns-then-kind-end
returns-then-kind-end c =
    let A = c.args in
    let l = c.loop-from in
    let o = an_item A.text.now A.item A.end l.from c.far_byte_from-e.result (omega arith) c.far_byte_from-e.ensures in
    let z = rw (← c.line_kind-kind.ensures, eq-eqb _ _ c.if-kind-end.true) at o in
    omega (arith, z, l.invariant.0)

pub overflow_add-from : goal.overflow_add-from
overflow_add-from c =
    let s = c.args.text.now in
    let l = c.loop-from in
    omega (arith, c.far_byte_from-e.ensures, reach_le (stops_by (Byte 10)) s l.from (omega arith))

pub loop-from-preserved : goal.loop-from-preserved
loop-from-preserved c =
    let A = c.args in
    let l = c.loop-from in
    let h = c.far_byte_from-e.ensures in
    let o = an_item A.text.now A.item A.end l.from c.far_byte_from-e.result (omega arith) c.far_byte_from-e.ensures in
    elim c.if-kind-item.branch [ then-kind-item w ↦ let z = rw (← c.line_kind-kind.ensures, ne_eqb _ _ c.if-kind-end.false, eq-eqb _ _ w.if-kind-item.true) at o in (omega (arith, z, w.n-is, l.invariant.0), omega (arith, w.n-is, h, l.invariant.1)) | else-kind-item w ↦ let z = rw (← c.line_kind-kind.ensures, ne_eqb _ _ c.if-kind-end.false, ne_eqb _ _ w.if-kind-item.false) at o in (omega (arith, z, w.n-is, l.invariant.0), omega (arith, w.n-is, h, l.invariant.1)) ]

pub returns : goal.returns
returns c =
    let l = c.loop-from in
    let A = c.args in
    let z = no_item A.text.now A.item A.end l.from (omega arith) in
    omega (arith, z, l.invariant.0)
