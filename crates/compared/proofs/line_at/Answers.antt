-- `compared::line_at` meets its contract: up to the next LF. Assumes nothing.
use native.Mathlib.Omega.{arith}
use borrow.Author.Rules.{rules}
use Rattle.scan.specs.Reach.{stops_by}
use Rattle.scan.specs.declared.Until.TheVariants.{Byte}
use Rattle.scan.proofs.Reach.{reach_le}
use Rattle.compared.proofs.Laws.{line-here, no_line}
use Rattle.compared.proofs.line_at.Goals as goal

pub slice_bounds-result-count : goal.slice_bounds-result-count
slice_bounds-result-count c = search (rules, c.far_byte_from-e.ensures)

pub slice_bounds-result-start : goal.slice_bounds-result-start
slice_bounds-result-start c = search (rules, c.far_byte_from-e.ensures)

pub slice_bounds-result-end : goal.slice_bounds-result-end
slice_bounds-result-end c =
    let a = c.args in
    let h = c.if-start-writing.true in
    omega (arith, c.far_byte_from-e.ensures, reach_le (stops_by (Byte 10)) a.writing.now a.start (omega arith))

pub returns-then-start-writing : goal.returns-then-start-writing
returns-then-start-writing c =
    let a = c.args in
    line-here a.writing.now a.start c.far_byte_from-e.result c.if-start-writing.true c.far_byte_from-e.ensures

pub returns-else-start-writing : goal.returns-else-start-writing
returns-else-start-writing c =
    let a = c.args in
    no_line a.writing.now a.start c.if-start-writing.false
