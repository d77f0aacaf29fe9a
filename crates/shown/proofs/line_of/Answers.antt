-- `shown::line_of` meets its contract: up to the next LF, without the CR, cut. Assumes nothing.
use mathlib.Core.Path.{sym, ◌∙◌}
use native.Mathlib.Omega.{arith}
use lib.Seq.{length-take-le}
use borrow.Author.Rules.{rules}
use Rattle.scan.specs.Reach.{stops_by}
use Rattle.scan.specs.declared.Until.TheVariants.{Byte}
use Rattle.scan.proofs.Reach.{reach_le}
use Rattle.line.proofs.Ends.{trim_le}
use Rattle.shown.proofs.Lines.{line_there, line-nowhere}
use Rattle.shown.proofs.line_of.Goals as goal

pub slice_bounds-line-count : goal.slice_bounds-line-count
slice_bounds-line-count c = search (rules, c.far_byte_from-e.ensures)

pub slice_bounds-line-start : goal.slice_bounds-line-start
slice_bounds-line-start c = search (rules, c.far_byte_from-e.ensures)

pub slice_bounds-line-end : goal.slice_bounds-line-end
slice_bounds-line-end c =
    let s = c.args.text.now in
    let h = c.if-from-text.true in
    omega (arith, c.far_byte_from-e.ensures, reach_le (stops_by (Byte 10)) s c.start_of-from.result (omega arith))

pub slice_bounds-first-end : goal.slice_bounds-first-end
slice_bounds-first-end c = sym (length-take-le _ _ (rw c.trimmed.ensures (trim_le _)))

pub returns-then-from-text : goal.returns-then-from-text
returns-then-from-text c =
    let s = c.args.text.now in
    let i = c.args.wanted in
    c.first.ensures ∙ rw c.trimmed.ensures (line_there s c.start_of-from.result c.far_byte_from-e.result i c.if-from-text.true c.far_byte_from-e.ensures c.start_of-from.ensures)

pub returns-else-from-text : goal.returns-else-from-text
returns-else-from-text c =
    let s = c.args.text.now in
    let i = c.args.wanted in
    line-nowhere s c.start_of-from.result i c.if-from-text.false c.start_of-from.ensures
