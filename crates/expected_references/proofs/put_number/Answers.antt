-- `expected_references::put_number` meets its contract. Assumes nothing.
use mathlib.Core.Path.{sym}
use mathlib.Core.List.{[]}
use Rattle.number.specs.House.{house_integer}
use Rattle.output.proofs.Writing.{none, same, ◌then◌}
use Rattle.expected_references.proofs.Listed.{element-past, element-told}
use Rattle.expected_references.proofs.put_number.Goals as goal

pub returns-then-i-gt5 : goal.returns-then-i-gt5
returns-then-i-gt5 c = same (sym (element-past _ [] _ _ c.if-i-gt5.true)) none

pub returns : goal.returns
unfolding house_integer
returns c = same (element-told _ [] _ _ c.if-i-gt5.false) (c.put_before-a.ensures then c.put_integer.ensures)
