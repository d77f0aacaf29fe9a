-- `find_line::mdf_line` meets its contract. Assumes nothing.
use mathlib.Core.Path.{sym, ap, ◌∙◌}
use Prim.Native.Nat.{◌+◌}
use native.Mathlib.Omega.{arith}
use lib.ListN.{drop}
use Rattle.scan.proofs.Reach.{reach_le}
use Rattle.scan.specs.declared.Until.TheVariants.{Byte}
use Rattle.scan.specs.Reach.{stops_by}
use Rattle.line.specs.Lines.{lines_of}
use Rattle.refusal.proofs.Sized.{too_long, not_too-long}
use Rattle.walk.specs.declared.Seen.{Seen}
use Rattle.find_line.specs.FoundLines.{mdf_line_kind_of, mdf_line_of, mdf_line_in}
use Rattle.find_line.proofs.Counting.{a-line, at-end, stays}
use Rattle.find_line.proofs.mdf_line.Goals as goal

pub returns-then-text-gt-LONGEST_TEXT : goal.returns-then-text-gt-LONGEST_TEXT
unfolding mdf_line_in
returns-then-text-gt-LONGEST_TEXT c = sym (too_long c.args.text.now _ _ c.if-text-gt-LONGEST_TEXT.true)

pub loop-from-init : goal.loop-from-init
unfolding mdf_line_of mdf_line_in
loop-from-init c = (omega arith, omega arith, rw c.none-seen.ensures (omega arith), rw c.none-seen.ensures (sym (not_too-long c.args.text.now _ _ (omega arith))), omega arith)

pub slice_bounds-mdf_line_kind-end : goal.slice_bounds-mdf_line_kind-end
slice_bounds-mdf_line_kind-end c = let s = c.args.text.now in let l = c.loop-from.from in omega (arith, c.far_byte_from-e.ensures, reach_le (stops_by (Byte 10)) s l (omega arith))

pub returns-then-row-seen : goal.returns-then-row-seen
returns-then-row-seen c =
    let A = c.args in
    let l = c.loop-from in
    let o = a-line mdf_line_kind_of A.kind A.row A.text.now l.from c.far_byte_from-e.result (omega arith) c.far_byte_from-e.ensures l.seen l.line c.mdf_line_kind.result c.mdf_line_kind.ensures c.more-seen.result c.more-seen.ensures (omega (arith, l.invariant.0, l.invariant.1, l.invariant.2, l.invariant.4)) in
    sym (stays mdf_line_kind_of A.kind A.row (lines_of (drop (c.far_byte_from-e.result + 1) A.text.now)) c.more-seen.result (l.line + 1) c.if-row-seen.true) ∙ sym (ap (λ (x : Seen). x.line) o.1) ∙ l.invariant.3

pub overflow_add-from : goal.overflow_add-from
overflow_add-from c = let s = c.args.text.now in let l = c.loop-from.from in omega (arith, c.far_byte_from-e.ensures, reach_le (stops_by (Byte 10)) s l (omega arith))

pub loop-from-preserved : goal.loop-from-preserved
loop-from-preserved c =
    let A = c.args in
    let l = c.loop-from in
    let k = reach_le (stops_by (Byte 10)) A.text.now l.from (omega arith) in
    let e = c.far_byte_from-e.ensures in
    let o = a-line mdf_line_kind_of A.kind A.row A.text.now l.from c.far_byte_from-e.result (omega arith) c.far_byte_from-e.ensures l.seen l.line c.mdf_line_kind.result c.mdf_line_kind.ensures c.more-seen.result c.more-seen.ensures (omega (arith, l.invariant.0, l.invariant.1, l.invariant.2, l.invariant.4)) in
    (omega arith, omega arith, omega (arith, o.0, l.invariant.2), sym (ap (λ (x : Seen). x.line) o.1) ∙ l.invariant.3, l.invariant.4)

pub returns : goal.returns
returns c =
    let A = c.args in
    let l = c.loop-from in
    sym (ap (λ (x : Seen). x.line) (at-end mdf_line_kind_of A.kind A.row A.text.now l.from (omega arith) l.seen l.line)) ∙ l.invariant.3
