-- `mend_passes::list_changes` meets its contract. The rows of the lines from there on, stored behind those that are there, are all rows. Assumes nothing.
use mathlib.Core.Path.{refl, sym, ap, ◌∙◌}
use native.Mathlib.Omega.{arith}
use lib.ListN.{length}
use Rattle.mend_lines.specs.Forward.{after_of}
use Rattle.mend_passes.proofs.Steps.{line-inside, one-row-at-most, rows-again, counted-again, no-rows-left, rows-done}
use Rattle.mend_passes.proofs.list_changes.Goals as goal

pub returns-then-text-gt-LONGEST_TEXT : goal.returns-then-text-gt-LONGEST_TEXT
returns-then-text-gt-LONGEST_TEXT c = record { list_after = λ h. absurd (omega (arith, c.if-text-gt-LONGEST_TEXT.true)); value = λ h. absurd (omega (arith, c.if-text-gt-LONGEST_TEXT.true)) }

pub loop-from-init : goal.loop-from-init
loop-from-init c = (refl, omega arith, omega arith, rw c.none-before.ensures, rw c.none-before.ensures (omega arith))

pub slice_bounds-bytes-count : goal.slice_bounds-bytes-count
slice_bounds-bytes-count c = omega (arith, c.far_byte_from-e.ensures)

pub slice_bounds-bytes-start : goal.slice_bounds-bytes-start
slice_bounds-bytes-start c = omega (arith, c.loop-from-test.true)

pub slice_bounds-bytes-end : goal.slice_bounds-bytes-end
slice_bounds-bytes-end c = omega (arith, line-inside c.args.text.now c.loop-from.from c.far_byte_from-e.result c.loop-from-test.true c.far_byte_from-e.ensures)

pub overflow_add-e : goal.overflow_add-e
overflow_add-e c = omega (arith, (line-inside c.args.text.now c.loop-from.from c.far_byte_from-e.result c.loop-from-test.true c.far_byte_from-e.ensures).1)

pub list_change-rows-requires : goal.list_change-rows-requires
list_change-rows-requires c = omega (arith, c.loop-from.invariant.1, c.loop-from-test.true, c.if-text-gt-LONGEST_TEXT.false)

pub overflow_add-from : goal.overflow_add-from
overflow_add-from c = omega (arith, (line-inside c.args.text.now c.loop-from.from c.far_byte_from-e.result c.loop-from-test.true c.far_byte_from-e.ensures).1)

pub overflow_add-line : goal.overflow_add-line
overflow_add-line c = omega (arith, c.loop-from.invariant.2, c.loop-from-test.true, c.if-text-gt-LONGEST_TEXT.false)

pub loop-from-smaller : goal.loop-from-smaller
loop-from-smaller c = omega (arith, c.far_byte_from-e.ensures, c.loop-from-test.true)

pub loop-from-preserved : goal.loop-from-preserved
loop-from-preserved c =
    let s = c.args.text.now in
    let l = c.loop-from in
    let h = c.loop-from-test.true in
    let kind = c.line_kind-kind.ensures in
    let d = c.after-before.result in
    let w = c.after-before.ensures ∙ ap (after_of l.before) kind in (
      c.list_change-rows.auto.list ∙ l.invariant.0,
      omega (arith, c.list_change-rows.ensures.value, one-row-at-most c.line_change-becomes.result l.line, c.far_byte_from-e.ensures, l.invariant.1),
      omega (arith, c.far_byte_from-e.ensures, l.invariant.2),
      rows-again s l.from c.far_byte_from-e.result h c.far_byte_from-e.ensures l.before d c.line_change-becomes.result (c.line_change-becomes.ensures kind) w l.line l.rows c.list_change-rows.result l.list _ c.list_change-rows.ensures.list_after c.list_change-rows.ensures.value ∙ l.invariant.3,
      counted-again s l.from c.far_byte_from-e.result h c.far_byte_from-e.ensures l.before d c.line_change-becomes.result (c.line_change-becomes.ensures kind) w l.line l.rows c.list_change-rows.result c.list_change-rows.ensures.value ∙ l.invariant.4,
    )

pub shape_of-list : goal.shape_of-list
shape_of-list c = c.loop-from.invariant.0

pub returns : goal.returns
returns c =
    let l = c.loop-from in
    let s = c.args.text.now in
    let h = c.loop-from-test.false in
    record { list_after = λ k. sym (rows-done s l.from h l.list l.rows l.before l.line) ∙ l.invariant.3; value = λ k. omega (arith, ap length (no-rows-left s l.from h l.before l.line), l.invariant.4) }
