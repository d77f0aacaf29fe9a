use Rattle.judge.specs.RndfLine.{rndf_kind}
use borrow.Author.Tests.{lt-ltb, le-ltb}
use Rattle.judge.proofs.kind_of.Goals as goal

pub returns-then-begins_with_digit : goal.returns-then-begins_with_digit
unfolding rndf_kind
returns-then-begins_with_digit c = rw (← c.begins_with_digit.ensures, c.if-begins_with_digit.true)

pub returns-then-i-lt-POINT : goal.returns-then-i-lt-POINT
unfolding rndf_kind
returns-then-i-lt-POINT c = rw (← c.begins_with_digit.ensures, c.if-begins_with_digit.false, ← c.rndf_keyword-i.ensures, lt-ltb _ 29 c.if-i-lt-POINT.true)

pub returns-else-i-lt-POINT : goal.returns-else-i-lt-POINT
unfolding rndf_kind
returns-else-i-lt-POINT c = rw (← c.begins_with_digit.ensures, c.if-begins_with_digit.false, ← c.rndf_keyword-i.ensures, le-ltb _ 29 c.if-i-lt-POINT.false)
