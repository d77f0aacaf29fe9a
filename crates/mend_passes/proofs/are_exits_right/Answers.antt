-- `mend_passes::are_exits_right` meets its contract. The entries from there on are right as all are. Assumes nothing.
use mathlib.Core.Path.{refl, sym, ap, ◌∙◌}
use Prim.Native.Nat.{◌-◌}
use native.Mathlib.Omega.{arith}
use lib.ListN.{take, drop}
use Rattle.references.specs.Finding.{look_in}
use Rattle.mend_lines.specs.Forward.{after_of}
use Rattle.mend_pieces.specs.Pieces.{behind_line}
use Rattle.mend_passes.proofs.Steps.{line-inside, exits-at, no-exits-left}
use Rattle.mend_passes.proofs.are_exits_right.Goals as goal

pub loop-from-init : goal.loop-from-init
loop-from-init c = rw c.none-before.ensures

pub slice_bounds-line-count : goal.slice_bounds-line-count
slice_bounds-line-count c = omega (arith, c.far_byte_from-e.ensures)

pub slice_bounds-line-start : goal.slice_bounds-line-start
slice_bounds-line-start c = omega (arith, c.loop-from-test.true)

pub slice_bounds-line-end : goal.slice_bounds-line-end
slice_bounds-line-end c = omega (arith, line-inside c.args.text.now c.loop-from.from c.far_byte_from-e.result c.loop-from-test.true c.far_byte_from-e.ensures)

pub overflow_add-e : goal.overflow_add-e
overflow_add-e c = omega (arith, (line-inside c.args.text.now c.loop-from.from c.far_byte_from-e.result c.loop-from-test.true c.far_byte_from-e.ensures).1)

pub returns-then-not-stays_right : goal.returns-then-not-stays_right
returns-then-not-stays_right c =
    let a = c.args in
    let l = c.loop-from in
    let kind = c.line_kind-kind.ensures in
    let d = behind_line l.before (take (c.far_byte_from-e.result - l.from) (drop l.from a.text.now)) in
    rw c.if-not-stays_right.true at (sym (exits-at a.text.now l.from c.far_byte_from-e.result c.loop-from-test.true c.far_byte_from-e.ensures l.before d c.line_change-becomes.result (c.line_change-becomes.ensures kind) refl (look_in a.segments.now a.lanes.now a.zones.now) a.segment_count c.stays_right.result c.stays_right.ensures) ∙ l.invariant)

pub overflow_add-from : goal.overflow_add-from
overflow_add-from c = omega (arith, (line-inside c.args.text.now c.loop-from.from c.far_byte_from-e.result c.loop-from-test.true c.far_byte_from-e.ensures).1)

pub loop-from-smaller : goal.loop-from-smaller
loop-from-smaller c = omega (arith, c.far_byte_from-e.ensures, c.loop-from-test.true)

pub loop-from-preserved : goal.loop-from-preserved
loop-from-preserved c =
    let a = c.args in
    let l = c.loop-from in
    let kind = c.line_kind-kind.ensures in
    let d = c.after-before.result in
    let w = c.after-before.ensures ∙ ap (after_of l.before) kind in
    rw c.if-not-stays_right.false at (sym (exits-at a.text.now l.from c.far_byte_from-e.result c.loop-from-test.true c.far_byte_from-e.ensures l.before d c.line_change-becomes.result (c.line_change-becomes.ensures kind) w (look_in a.segments.now a.lanes.now a.zones.now) a.segment_count c.stays_right.result c.stays_right.ensures) ∙ l.invariant)

pub returns : goal.returns
returns c = let a = c.args in sym (no-exits-left a.text.now c.loop-from.from c.loop-from-test.false c.loop-from.before (look_in a.segments.now a.lanes.now a.zones.now) a.segment_count) ∙ c.loop-from.invariant
