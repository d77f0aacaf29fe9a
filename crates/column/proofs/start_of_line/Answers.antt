-- `column::start_of_line` meets its contract: the start found from here on is the text's. Assumes nothing.
use mathlib.Core.Path.{refl, sym, ◌∙◌}
use native.Mathlib.Omega.{arith}
use native.Mathlib.Nat.{zero-add}
use borrow.Author.Rules.{rules}
use Rattle.scan.specs.Reach.{stops_by}
use Rattle.scan.specs.declared.Until.TheVariants.{Byte}
use Rattle.scan.proofs.Reach.{reach_le}
use Rattle.column.proofs.Lines.{at-end, this-line, other-line}
use Rattle.column.proofs.start_of_line.Goals as goal

pub loop-from-init : goal.loop-from-init
loop-from-init c = (omega arith, omega arith, zero-add _)

pub returns-then-line-wanted : goal.returns-then-line-wanted
returns-then-line-wanted c =
    let l = c.loop-from in
    let A = c.args in
    sym (this-line A.text.now l.from _ c.loop-from-test.true refl l.line A.wanted c.if-line-wanted.true) ∙ l.invariant.2

pub overflow_add-from : goal.overflow_add-from
overflow_add-from c =
    let s = c.args.text.now in
    let l = c.loop-from in
    let h = c.loop-from-test.true in
    omega (arith, c.far_byte_from-from.ensures, reach_le (stops_by (Byte 10)) s l.from (omega arith))

pub overflow_add-line : goal.overflow_add-line
overflow_add-line c = search (rules, c.requires)

pub loop-from-smaller : goal.loop-from-smaller
loop-from-smaller c =
    let s = c.args.text.now in
    let l = c.loop-from in
    let h = c.loop-from-test.true in
    omega (arith, c.far_byte_from-from.ensures, reach_le (stops_by (Byte 10)) s l.from (omega arith))

pub loop-from-preserved : goal.loop-from-preserved
loop-from-preserved c =
    let s = c.args.text.now in
    let w = c.args.wanted in
    let l = c.loop-from in
    let h = c.loop-from-test.true in
    let e = c.far_byte_from-from.ensures in
    let k = reach_le (stops_by (Byte 10)) s l.from (omega arith) in
    (omega arith, omega arith, sym (other-line s l.from c.far_byte_from-from.result h e l.line w c.if-line-wanted.false) ∙ l.invariant.2)

pub returns : goal.returns
returns c =
    let l = c.loop-from in
    let A = c.args in
    sym (at-end A.text.now l.from c.loop-from-test.false l.line A.wanted) ∙ l.invariant.2
