-- `expected_references::mark_limits` meets its contract. The marks of the limits from here on, put behind those that are there, are all. Assumes nothing.
use mathlib.Core.Path.{sym, ◌∙◌}
use native.Mathlib.Omega.{arith}
use Rattle.expected_references.proofs.Steps.{line-inside, limit-hit, limit-pass, no-limit, no-line-left}
use Rattle.expected_references.proofs.mark_limits.Goals as goal

pub returns-then-left-le1 : goal.returns-then-left-le1
returns-then-left-le1 c = sym (no-line-left c.loop-from.marks c.loop-from.left _ c.if-left-le1.true) ∙ c.loop-from.invariant

pub overflow_sub-left : goal.overflow_sub-left
overflow_sub-left c = omega (arith, c.if-left-le1.false)

pub slice_bounds-this-count : goal.slice_bounds-this-count
slice_bounds-this-count c = omega (arith, c.far_byte_from-e.ensures)

pub slice_bounds-this-start : goal.slice_bounds-this-start
slice_bounds-this-start c = omega (arith, (line-inside c.args.mdf.now c.loop-from.from c.far_byte_from-e.result c.loop-from-test.true c.far_byte_from-e.ensures).0)

pub slice_bounds-this-end : goal.slice_bounds-this-end
slice_bounds-this-end c = omega (arith, (line-inside c.args.mdf.now c.loop-from.from c.far_byte_from-e.result c.loop-from-test.true c.far_byte_from-e.ensures).1)

pub overflow_add-from : goal.overflow_add-from
overflow_add-from c = omega (arith, (line-inside c.args.mdf.now c.loop-from.from c.far_byte_from-e.result c.loop-from-test.true c.far_byte_from-e.ensures).1)

pub loop-from-smaller-then-mdf_line_kind-eq-LIMIT : goal.loop-from-smaller-then-mdf_line_kind-eq-LIMIT
loop-from-smaller-then-mdf_line_kind-eq-LIMIT c = omega (arith, c.far_byte_from-e.ensures, c.loop-from-test.true)

pub loop-from-preserved-then-mdf_line_kind-eq-LIMIT : goal.loop-from-preserved-then-mdf_line_kind-eq-LIMIT
loop-from-preserved-then-mdf_line_kind-eq-LIMIT c = rw (c.mark_number.ensures, c.number_on.ensures) (sym (limit-hit c.args.mdf.now c.loop-from.from c.far_byte_from-e.result c.loop-from-test.true c.far_byte_from-e.ensures c.loop-from.left (omega (arith, c.if-left-le1.false)) c.loop-from.marks (sym c.mdf_line_kind.ensures ∙ c.if-mdf_line_kind-eq-LIMIT.true)) ∙ c.loop-from.invariant)

pub loop-from-smaller : goal.loop-from-smaller
loop-from-smaller c = omega (arith, c.far_byte_from-e.ensures, c.loop-from-test.true)

pub loop-from-preserved : goal.loop-from-preserved
loop-from-preserved c = sym (limit-pass c.args.mdf.now c.loop-from.from c.far_byte_from-e.result c.loop-from-test.true c.far_byte_from-e.ensures c.loop-from.left (omega (arith, c.if-left-le1.false)) c.loop-from.marks (λ e. c.if-mdf_line_kind-eq-LIMIT.false (c.mdf_line_kind.ensures ∙ e))) ∙ c.loop-from.invariant

pub returns : goal.returns
returns c = sym (no-limit c.args.mdf.now c.loop-from.from c.loop-from-test.false c.loop-from.marks c.loop-from.left) ∙ c.loop-from.invariant
