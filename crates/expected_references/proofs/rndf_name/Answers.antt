-- `expected_references::rndf_name` meets its contract. The name in the lines from here on is the name. Assumes nothing.
use mathlib.Core.Path.{refl, sym, ◌∙◌}
use native.Mathlib.Omega.{arith}
use Rattle.expected_references.specs.Named.{name_in_of}
use Rattle.expected_references.proofs.Steps.{line-inside, name-hit, name-pass, no_name}
use Rattle.expected_references.proofs.rndf_name.Goals as goal

pub loop-from-init : goal.loop-from-init
unfolding name_in_of
loop-from-init c = refl

pub slice_bounds-this-count : goal.slice_bounds-this-count
slice_bounds-this-count c = omega (arith, c.far_byte_from-e.ensures)

pub slice_bounds-this-start : goal.slice_bounds-this-start
slice_bounds-this-start c = omega (arith, (line-inside c.args.rndf.now c.loop-from.from c.far_byte_from-e.result c.loop-from-test.true c.far_byte_from-e.ensures).0)

pub slice_bounds-this-end : goal.slice_bounds-this-end
slice_bounds-this-end c = omega (arith, (line-inside c.args.rndf.now c.loop-from.from c.far_byte_from-e.result c.loop-from-test.true c.far_byte_from-e.ensures).1)

pub returns-then-rndf_line_kind-eq-RNDF_NAME : goal.returns-then-rndf_line_kind-eq-RNDF_NAME
returns-then-rndf_line_kind-eq-RNDF_NAME c = c.field_on.ensures ∙ sym (name-hit c.args.rndf.now c.loop-from.from c.far_byte_from-e.result c.loop-from-test.true c.far_byte_from-e.ensures (sym c.rndf_line_kind.ensures ∙ c.if-rndf_line_kind-eq-RNDF_NAME.true)) ∙ c.loop-from.invariant

pub overflow_add-from : goal.overflow_add-from
overflow_add-from c = omega (arith, (line-inside c.args.rndf.now c.loop-from.from c.far_byte_from-e.result c.loop-from-test.true c.far_byte_from-e.ensures).1)

pub loop-from-smaller : goal.loop-from-smaller
loop-from-smaller c = omega (arith, c.far_byte_from-e.ensures, c.loop-from-test.true)

pub loop-from-preserved : goal.loop-from-preserved
loop-from-preserved c = sym (name-pass c.args.rndf.now c.loop-from.from c.far_byte_from-e.result c.loop-from-test.true c.far_byte_from-e.ensures (λ e. c.if-rndf_line_kind-eq-RNDF_NAME.false (c.rndf_line_kind.ensures ∙ e))) ∙ c.loop-from.invariant

pub returns : goal.returns
returns c = sym (no_name c.args.rndf.now c.loop-from.from c.loop-from-test.false) ∙ c.loop-from.invariant
