use borrow.Author.Tests.{lt-ltb, le-ltb}
use Rattle.mission_judge.specs.MdfLine.{mdf_kind}
use Rattle.mission_judge.proofs.kind_of.Goals as goal

pub returns-then-begins_with_digit : goal.returns-then-begins_with_digit
unfolding mdf_kind
returns-then-begins_with_digit c = rw (← c.begins_with_digit.ensures, c.if-begins_with_digit.true) c.number_kind.ensures

pub returns-then-i-lt-GOAL : goal.returns-then-i-lt-GOAL
unfolding mdf_kind
returns-then-i-lt-GOAL c = rw (← c.begins_with_digit.ensures, c.if-begins_with_digit.false, ← c.mdf_keyword-i.ensures, lt-ltb _ 11 c.if-i-lt-GOAL.true)

pub returns-else-i-lt-GOAL : goal.returns-else-i-lt-GOAL
unfolding mdf_kind
returns-else-i-lt-GOAL c = rw (← c.begins_with_digit.ensures, c.if-begins_with_digit.false, ← c.mdf_keyword-i.ensures, le-ltb _ 11 c.if-i-lt-GOAL.false)
