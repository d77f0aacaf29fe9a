-- `expected_references::ids_in` meets its contract. What is counted behind this count is all. Assumes nothing.
use mathlib.Core.Path.{refl, sym, ◌∙◌}
use native.Mathlib.Omega.{arith}
use Rattle.expected_references.specs.Named.{ids_in}
use Rattle.expected_references.proofs.Steps.{line-inside, part-more, no_more}
use Rattle.expected_references.proofs.ids_in.Goals as goal

pub loop-from-init : goal.loop-from-init
unfolding ids_in
loop-from-init c = refl

pub slice_bounds-with_part-count : goal.slice_bounds-with_part-count
slice_bounds-with_part-count c = omega (arith, c.far_byte_from-e.ensures)

pub slice_bounds-with_part-start : goal.slice_bounds-with_part-start
slice_bounds-with_part-start c = omega (arith, (line-inside c.args.rndf.now c.loop-from.from c.far_byte_from-e.result c.loop-from-test.true c.far_byte_from-e.ensures).0)

pub slice_bounds-with_part-end : goal.slice_bounds-with_part-end
slice_bounds-with_part-end c = omega (arith, (line-inside c.args.rndf.now c.loop-from.from c.far_byte_from-e.result c.loop-from-test.true c.far_byte_from-e.ensures).1)

pub overflow_add-from : goal.overflow_add-from
overflow_add-from c = omega (arith, (line-inside c.args.rndf.now c.loop-from.from c.far_byte_from-e.result c.loop-from-test.true c.far_byte_from-e.ensures).1)

pub loop-from-smaller : goal.loop-from-smaller
loop-from-smaller c = omega (arith, c.far_byte_from-e.ensures, c.loop-from-test.true)

pub loop-from-preserved : goal.loop-from-preserved
loop-from-preserved c = rw c.with_part-count.ensures (sym (part-more c.args.rndf.now c.loop-from.from c.far_byte_from-e.result c.loop-from-test.true c.far_byte_from-e.ensures c.loop-from.count) ∙ c.loop-from.invariant)

pub returns : goal.returns
returns c = sym (no_more c.args.rndf.now c.loop-from.from c.loop-from-test.false c.loop-from.count) ∙ c.loop-from.invariant
