-- `mend_words::put_next` meets its contract: one line told, and the next; nothing is said of other places and numbers. Assumes nothing.
use mathlib.Core.Path.{ap, ◌∙◌}
use native.Mathlib.Omega.{arith}
use Rattle.mend_lines.specs.Forward.{after_of}
use Rattle.mend_words.proofs.Forward.{line-inside, told_at}
use Rattle.mend_words.proofs.put_next.Goals as goal

pub returns-then-text-from : goal.returns-then-text-from
returns-then-text-from c = λ h k. absurd (omega (arith, c.if-text-from.true))

pub returns-then-text-line : goal.returns-then-text-line
returns-then-text-line c = λ h k. absurd (omega (arith, c.if-text-line.true))

pub slice_bounds-bytes-count : goal.slice_bounds-bytes-count
slice_bounds-bytes-count c = omega (arith, c.far_byte_from-e.ensures)

pub slice_bounds-bytes-start : goal.slice_bounds-bytes-start
slice_bounds-bytes-start c = omega (arith, c.if-text-from.false)

pub slice_bounds-bytes-end : goal.slice_bounds-bytes-end
slice_bounds-bytes-end c = omega (arith, line-inside c.args.text.now c.args.from c.far_byte_from-e.result c.if-text-from.false c.far_byte_from-e.ensures)

pub overflow_add-e : goal.overflow_add-e
overflow_add-e c = omega (arith, (line-inside c.args.text.now c.args.from c.far_byte_from-e.result c.if-text-from.false c.far_byte_from-e.ensures).1)

pub overflow_add-result : goal.overflow_add-result
overflow_add-result c = omega (arith, (line-inside c.args.text.now c.args.from c.far_byte_from-e.result c.if-text-from.false c.far_byte_from-e.ensures).1)

pub overflow_add-result-2 : goal.overflow_add-result-2
overflow_add-result-2 c = omega (arith, c.if-text-line.false)

pub returns : goal.returns
returns c =
    let a = c.args in
    let kind = c.line_kind-kind.ensures in
    let w = c.after-behind.ensures ∙ ap (after_of a.before) kind in
    λ h k. record {
      told = _;
      wrote = c.put_change-at.ensures;
      all = told_at a.text.now a.from c.far_byte_from-e.result h c.far_byte_from-e.ensures a.name.now a.line a.before c.after-behind.result c.line_change-becomes.result (c.line_change-becomes.ensures kind) w;
      onward = omega (arith, c.far_byte_from-e.ensures);
      few = omega (arith, c.far_byte_from-e.ensures, k);
    }
