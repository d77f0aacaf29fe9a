-- `mend_passes::put_mended` meets its contract. What is put behind what is out is all that comes out. Assumes nothing.
use mathlib.Core.Path.{refl, sym, ap, ◌∙◌}
use native.Mathlib.Omega.{arith}
use Rattle.mend_lines.specs.Forward.{after_of}
use Rattle.mend_passes.proofs.Steps.{line-inside, stop-within, bytes-again, bytes-done}
use Rattle.mend_passes.proofs.put_mended.Goals as goal

pub loop-from-init : goal.loop-from-init
loop-from-init c = (refl, rw c.none-before.ensures)

pub slice_bounds-line-count : goal.slice_bounds-line-count
slice_bounds-line-count c = omega (arith, c.far_byte_from-e.ensures)

pub slice_bounds-line-start : goal.slice_bounds-line-start
slice_bounds-line-start c = omega (arith, c.loop-from-test.true)

pub slice_bounds-line-end : goal.slice_bounds-line-end
slice_bounds-line-end c = omega (arith, line-inside c.args.text.now c.loop-from.from c.far_byte_from-e.result c.loop-from-test.true c.far_byte_from-e.ensures)

pub overflow_add-e : goal.overflow_add-e
overflow_add-e c = omega (arith, (line-inside c.args.text.now c.loop-from.from c.far_byte_from-e.result c.loop-from-test.true c.far_byte_from-e.ensures).1)

pub slice_bounds-put_piece-count : goal.slice_bounds-put_piece-count
slice_bounds-put_piece-count c = omega (arith, c.line_stop-stop.ensures, (stop-within c.args.text.now c.loop-from.from c.loop-from-test.true).0)

pub slice_bounds-put_piece-start : goal.slice_bounds-put_piece-start
slice_bounds-put_piece-start c = omega (arith, c.line_stop-stop.ensures, stop-within c.args.text.now c.loop-from.from c.loop-from-test.true)

pub slice_bounds-put_piece-end : goal.slice_bounds-put_piece-end
slice_bounds-put_piece-end c = omega (arith, c.line_stop-stop.ensures, stop-within c.args.text.now c.loop-from.from c.loop-from-test.true)

pub overflow_add-from : goal.overflow_add-from
overflow_add-from c = omega (arith, (line-inside c.args.text.now c.loop-from.from c.far_byte_from-e.result c.loop-from-test.true c.far_byte_from-e.ensures).1)

pub loop-from-smaller : goal.loop-from-smaller
loop-from-smaller c = omega (arith, c.far_byte_from-e.ensures, c.loop-from-test.true)

pub loop-from-preserved : goal.loop-from-preserved
loop-from-preserved c =
    let s = c.args.text.now in
    let l = c.loop-from in
    let kind = c.line_kind-kind.ensures in
    let d = c.after-before.result in
    let w = c.after-before.ensures ∙ ap (after_of l.before) kind in
    (c.put_piece-at.auto.out ∙ l.invariant.0, bytes-again s l.from c.far_byte_from-e.result c.loop-from-test.true c.far_byte_from-e.ensures l.before d c.line_change-becomes.result (c.line_change-becomes.ensures kind) w c.line_stop-stop.result _ _ c.line_stop-stop.ensures c.put_piece-at.ensures ∙ l.invariant.1)

pub shape_of-out : goal.shape_of-out
shape_of-out c = c.loop-from.invariant.0

pub returns : goal.returns
returns c = record { is = sym c.loop-from.invariant.1 ∙ bytes-done c.args.text.now c.loop-from.from c.loop-from-test.false _ c.loop-from.before }
