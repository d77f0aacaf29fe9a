-- `find_line::first_order` meets its contract. Assumes nothing.
use Prim.Native.Nat.{◌≤◌}
use native.Mathlib.Omega.{arith}
use lib.ListN.{length}
use borrow.Author.Tests.{lt-ltb, le-ltb}
use Rattle.scan.specs.Reach.{stops_by}
use Rattle.scan.specs.declared.Until.TheVariants.{Separator, NotSeparator}
use Rattle.scan.proofs.Reach.{reach_le}
use Rattle.line.specs.Forms.{span_at_of}
use Rattle.find_line.specs.FoundLines.{first_of, first_order_of}
use Rattle.find_line.proofs.first_order.Goals as goal

pub slice_bounds-begins_with_digit-end : goal.slice_bounds-begins_with_digit-end
slice_bounds-begins_with_digit-end c =
    let s = c.args.s.now in
    let h : c.not_separator_from-a.result ≤ length s = rw c.not_separator_from-a.ensures (reach_le (stops_by NotSeparator) s 0 (omega arith)) in
    omega (arith, c.separator_from-e.ensures, reach_le (stops_by Separator) s c.not_separator_from-a.result h)

pub returns-then-begins_with_digit : goal.returns-then-begins_with_digit
unfolding first_order_of first_of span_at_of
returns-then-begins_with_digit c = rw (← c.not_separator_from-a.ensures, ← c.separator_from-e.ensures, ← c.begins_with_digit.ensures, c.if-begins_with_digit.true) c.digit_kind.ensures

pub slice_bounds-mdf_keyword-end : goal.slice_bounds-mdf_keyword-end
slice_bounds-mdf_keyword-end c =
    let s = c.args.s.now in
    let h : c.not_separator_from-a.result ≤ length s = rw c.not_separator_from-a.ensures (reach_le (stops_by NotSeparator) s 0 (omega arith)) in
    omega (arith, c.separator_from-e.ensures, reach_le (stops_by Separator) s c.not_separator_from-a.result h)

pub returns-then-i-lt-GOAL : goal.returns-then-i-lt-GOAL
unfolding first_order_of first_of span_at_of
returns-then-i-lt-GOAL c = rw (← c.not_separator_from-a.ensures, ← c.separator_from-e.ensures, ← c.begins_with_digit.ensures, c.if-begins_with_digit.false, ← c.mdf_keyword-i.ensures, lt-ltb _ 11 c.if-i-lt-GOAL.true)

pub returns-else-i-lt-GOAL : goal.returns-else-i-lt-GOAL
unfolding first_order_of first_of span_at_of
returns-else-i-lt-GOAL c = rw (← c.not_separator_from-a.ensures, ← c.separator_from-e.ensures, ← c.begins_with_digit.ensures, c.if-begins_with_digit.false, ← c.mdf_keyword-i.ensures, le-ltb _ 11 c.if-i-lt-GOAL.false)
