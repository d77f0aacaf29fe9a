-- `expected_references::put_goals` meets its contract. What is put behind what is out is all that is told. Assumes nothing.
use mathlib.Core.Path.{refl, sym, ap, ◌∙◌}
use native.Mathlib.Omega.{arith}
use Rattle.terms.specs.Ascii.{ascii}
use Rattle.output.specs.Pen.{pen, put}
use Rattle.output.proofs.Writing.{same}
use Rattle.expected_references.proofs.Steps.{line-inside}
use Rattle.expected_references.proofs.Walks.{goals-whole, goals-none, goal-put, goal-passed, goals-done}
use Rattle.expected_references.proofs.put_goals.Goals as goal

pub returns-then-rndf-gt-LONGEST_TEXT : goal.returns-then-rndf-gt-LONGEST_TEXT
unfolding ascii
returns-then-rndf-gt-LONGEST_TEXT c = same (goals-none c.args.rndf.now c.if-rndf-gt-LONGEST_TEXT.true) c.put_bytes.ensures

pub loop-from-init : goal.loop-from-init
loop-from-init c = (refl, omega arith, omega arith, c.if-rndf-gt-LONGEST_TEXT.false, ap (put (pen c.args.out.now c.args.at)) (goals-whole c.args.rndf.now c.if-rndf-gt-LONGEST_TEXT.false))

pub slice_bounds-this-count : goal.slice_bounds-this-count
slice_bounds-this-count c = omega (arith, c.far_byte_from-e.ensures)

pub slice_bounds-this-start : goal.slice_bounds-this-start
slice_bounds-this-start c = omega (arith, (line-inside c.args.rndf.now c.loop-from.from c.far_byte_from-e.result c.loop-from-test.true c.far_byte_from-e.ensures).0)

pub slice_bounds-this-end : goal.slice_bounds-this-end
slice_bounds-this-end c = omega (arith, (line-inside c.args.rndf.now c.loop-from.from c.far_byte_from-e.result c.loop-from-test.true c.far_byte_from-e.ensures).1)

pub overflow_add-from : goal.overflow_add-from
overflow_add-from c = omega (arith, (line-inside c.args.rndf.now c.loop-from.from c.far_byte_from-e.result c.loop-from-test.true c.far_byte_from-e.ensures).1)

pub overflow_add-count : goal.overflow_add-count
overflow_add-count c = omega (arith, c.loop-from.invariant.1, c.loop-from.invariant.2, c.loop-from.invariant.3)

pub loop-from-smaller-then-rndf_line_kind-eq-CHECKPOINT : goal.loop-from-smaller-then-rndf_line_kind-eq-CHECKPOINT
loop-from-smaller-then-rndf_line_kind-eq-CHECKPOINT c = omega (arith, c.far_byte_from-e.ensures, c.loop-from-test.true)

pub loop-from-preserved-then-rndf_line_kind-eq-CHECKPOINT : goal.loop-from-preserved-then-rndf_line_kind-eq-CHECKPOINT
unfolding ascii
loop-from-preserved-then-rndf_line_kind-eq-CHECKPOINT c =
    let l = c.loop-from in
    let s = c.args.rndf.now in
    let h = line-inside s l.from c.far_byte_from-e.result c.loop-from-test.true c.far_byte_from-e.ensures in
    (c.put_number-to.auto.out ∙ l.invariant.0, omega arith, omega arith, l.invariant.3, goal-put (ascii "may stand here: a checkpoint of the RNDF: ") (ascii "may stand here: nothing, for the RNDF has no checkpoint") s l.from c.far_byte_from-e.result c.loop-from-test.true c.far_byte_from-e.ensures _ l.count _ _ c.rndf_line_kind.ensures c.if-rndf_line_kind-eq-CHECKPOINT.true c.number_on.ensures c.put_number-to.ensures ∙ l.invariant.4)

pub loop-from-smaller : goal.loop-from-smaller
loop-from-smaller c = omega (arith, c.far_byte_from-e.ensures, c.loop-from-test.true)

pub loop-from-preserved : goal.loop-from-preserved
loop-from-preserved c =
    let l = c.loop-from in
    let s = c.args.rndf.now in
    let h = line-inside s l.from c.far_byte_from-e.result c.loop-from-test.true c.far_byte_from-e.ensures in
    (l.invariant.0, omega arith, omega arith, l.invariant.3, goal-passed (ascii "may stand here: a checkpoint of the RNDF: ") (ascii "may stand here: nothing, for the RNDF has no checkpoint") s l.from c.far_byte_from-e.result c.loop-from-test.true c.far_byte_from-e.ensures (pen l.out l.to) l.count _ c.rndf_line_kind.ensures c.if-rndf_line_kind-eq-CHECKPOINT.false ∙ l.invariant.4)

pub shape_of-out : goal.shape_of-out
shape_of-out c = c.put_list_end.auto.out ∙ c.loop-from.invariant.0

pub returns : goal.returns
unfolding ascii
returns c = record { is = sym c.loop-from.invariant.4 ∙ goals-done (ascii "may stand here: a checkpoint of the RNDF: ") (ascii "may stand here: nothing, for the RNDF has no checkpoint") c.args.rndf.now c.loop-from.from c.loop-from-test.false c.loop-from.count c.put_list_end.ensures }
