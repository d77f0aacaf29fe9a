-- `mended_lines::line_behind` meets its contract. What is found from here on is what is found from the start. Assumes nothing.
use mathlib.Core.Path.{sym, ap, ◌∙◌}
use native.Mathlib.Omega.{arith}
use Rattle.mend_lines.specs.Forward.{after_of}
use Rattle.mended_lines.specs.Given.{kept_of}
use Rattle.mended_lines.proofs.Numbers.{line-inside, found_here, found-later, found_none}
use Rattle.mended_lines.proofs.line_behind.Goals as goal

pub loop-from-init : goal.loop-from-init
loop-from-init c = (rw c.none-before.ensures, omega arith)

pub slice_bounds-bytes-count : goal.slice_bounds-bytes-count
slice_bounds-bytes-count c = omega (arith, c.far_byte_from-e.ensures)

pub slice_bounds-bytes-start : goal.slice_bounds-bytes-start
slice_bounds-bytes-start c = omega (arith, c.loop-from-test.true)

pub slice_bounds-bytes-end : goal.slice_bounds-bytes-end
slice_bounds-bytes-end c = omega (arith, line-inside c.args.text.now c.loop-from.from c.far_byte_from-e.result c.loop-from-test.true c.far_byte_from-e.ensures)

pub overflow_add-e : goal.overflow_add-e
overflow_add-e c = omega (arith, (line-inside c.args.text.now c.loop-from.from c.far_byte_from-e.result c.loop-from-test.true c.far_byte_from-e.ensures).1)

pub returns-then-kept-left : goal.returns-then-kept-left
returns-then-kept-left c =
    let l = c.loop-from in
    sym (found_here c.args.text.now l.from c.far_byte_from-e.result c.loop-from-test.true c.far_byte_from-e.ensures l.before c.is_kept-kept.result (c.is_kept-kept.ensures ∙ ap kept_of (c.line_change.ensures c.line_kind-kind.ensures)) l.line l.left c.if-kept-left.true) ∙ l.invariant.0

pub overflow_add-from : goal.overflow_add-from
overflow_add-from c = omega (arith, (line-inside c.args.text.now c.loop-from.from c.far_byte_from-e.result c.loop-from-test.true c.far_byte_from-e.ensures).1)

pub overflow_add-line : goal.overflow_add-line
overflow_add-line c = omega (arith, c.loop-from.invariant.1, c.loop-from-test.true)

pub loop-from-smaller : goal.loop-from-smaller
loop-from-smaller c = omega (arith, c.far_byte_from-e.ensures, c.loop-from-test.true)

pub loop-from-preserved : goal.loop-from-preserved
loop-from-preserved c =
    let l = c.loop-from in
    let w = c.after-before.ensures ∙ ap (after_of l.before) c.line_kind-kind.ensures in
    (found-later c.args.text.now l.from c.far_byte_from-e.result c.loop-from-test.true c.far_byte_from-e.ensures l.before c.is_kept-kept.result (c.is_kept-kept.ensures ∙ ap kept_of (c.line_change.ensures c.line_kind-kind.ensures)) l.line l.left c.if-kept-left.false c.after-before.result w c.left_behind-left.result c.left_behind-left.ensures ∙ l.invariant.0, omega (arith, c.far_byte_from-e.ensures, l.invariant.1))

pub returns : goal.returns
returns c = sym (found_none c.args.text.now c.loop-from.from c.loop-from-test.false c.loop-from.line c.loop-from.left c.loop-from.before) ∙ c.loop-from.invariant.0
