-- `expected_references::put_entries` meets its contract. What is put behind what is out is all that is told. Assumes nothing.
use mathlib.Core.Path.{refl, sym, ap, ◌∙◌}
use native.Mathlib.Omega.{arith}
use Rattle.terms.specs.Ascii.{ascii}
use Rattle.output.specs.Pen.{pen, put}
use Rattle.output.proofs.Writing.{same}
use Rattle.expected_references.proofs.Steps.{line-inside}
use Rattle.expected_references.proofs.Walks.{entries-whole, entries_none, part-put, part-passed, parts-done}
use Rattle.expected_references.proofs.put_entries.Goals as goal

pub returns-then-rndf-gt-LONGEST_TEXT : goal.returns-then-rndf-gt-LONGEST_TEXT
unfolding ascii
returns-then-rndf-gt-LONGEST_TEXT c = same (entries_none c.args.rndf.now c.args.line c.if-rndf-gt-LONGEST_TEXT.true) c.put_bytes.ensures

pub loop-from-init : goal.loop-from-init
loop-from-init c = (refl, omega arith, omega arith, c.if-rndf-gt-LONGEST_TEXT.false, ap (put (pen c.args.out.now c.args.at)) (entries-whole c.args.rndf.now c.args.line _ c.low_in-low.ensures c.if-rndf-gt-LONGEST_TEXT.false))

pub slice_bounds-this-count : goal.slice_bounds-this-count
slice_bounds-this-count c = omega (arith, c.far_byte_from-e.ensures)

pub slice_bounds-this-start : goal.slice_bounds-this-start
slice_bounds-this-start c = omega (arith, (line-inside c.args.rndf.now c.loop-from.from c.far_byte_from-e.result c.loop-from-test.true c.far_byte_from-e.ensures).0)

pub slice_bounds-this-end : goal.slice_bounds-this-end
slice_bounds-this-end c = omega (arith, (line-inside c.args.rndf.now c.loop-from.from c.far_byte_from-e.result c.loop-from-test.true c.far_byte_from-e.ensures).1)

pub overflow_add-from : goal.overflow_add-from
overflow_add-from c = omega (arith, (line-inside c.args.rndf.now c.loop-from.from c.far_byte_from-e.result c.loop-from-test.true c.far_byte_from-e.ensures).1)

pub overflow_add-count : goal.overflow_add-count
overflow_add-count c = omega (arith, c.loop-from.invariant.1, c.loop-from.invariant.2, c.loop-from.invariant.3)

pub loop-from-smaller-then-ends_part : goal.loop-from-smaller-then-ends_part
loop-from-smaller-then-ends_part c = omega (arith, c.far_byte_from-e.ensures, c.loop-from-test.true)

pub loop-from-preserved-then-ends_part : goal.loop-from-preserved-then-ends_part
unfolding ascii
loop-from-preserved-then-ends_part c =
    let l = c.loop-from in
    let s = c.args.rndf.now in
    let h = line-inside s l.from c.far_byte_from-e.result c.loop-from-test.true c.far_byte_from-e.ensures in
    (c.put_part-to.auto.out ∙ l.invariant.0, omega arith, omega arith, l.invariant.3, part-put (ascii "may stand here: ") (ascii "may stand here: ") s l.from c.far_byte_from-e.result c.loop-from-test.true c.far_byte_from-e.ensures _ l.count _ l.last _ c.kept_id-last.ensures _ c.ends_part.ensures c.if-ends_part.true c.put_part-to.ensures ∙ l.invariant.4)

pub loop-from-smaller : goal.loop-from-smaller
loop-from-smaller c = omega (arith, c.far_byte_from-e.ensures, c.loop-from-test.true)

pub loop-from-preserved : goal.loop-from-preserved
loop-from-preserved c =
    let l = c.loop-from in
    let s = c.args.rndf.now in
    let h = line-inside s l.from c.far_byte_from-e.result c.loop-from-test.true c.far_byte_from-e.ensures in
    (l.invariant.0, omega arith, omega arith, l.invariant.3, part-passed (ascii "may stand here: ") (ascii "may stand here: ") s l.from c.far_byte_from-e.result c.loop-from-test.true c.far_byte_from-e.ensures (pen l.out l.to) l.count _ l.last _ c.kept_id-last.ensures _ c.ends_part.ensures c.if-ends_part.false ∙ l.invariant.4)

pub shape_of-out : goal.shape_of-out
shape_of-out c = c.put_list_end.auto.out ∙ c.loop-from.invariant.0

pub returns : goal.returns
unfolding ascii
returns c = record { is = sym c.loop-from.invariant.4 ∙ parts-done (ascii "may stand here: ") (ascii "may stand here: ") c.args.rndf.now c.loop-from.from c.loop-from-test.false c.loop-from.count c.put_list_end.ensures _ c.loop-from.last }
