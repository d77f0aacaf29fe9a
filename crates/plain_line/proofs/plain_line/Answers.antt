-- `plain_line::plain_line` meets its contract. Assumes nothing.
use native.Mathlib.Omega.{arith}
use Rattle.plain_parts.proofs.Ended.{blank-to}
use Rattle.plain_line.proofs.Whole.{line-said}
use Rattle.plain_line.proofs.plain_line.Goals as goal

-- src/lib.rt:288:1
pub returns-in-Some-end_of : goal.returns-in-Some-end_of
returns-in-Some-end_of c =
    let a = c.args in
    let says = rw c.in-Some.is at c.fields_said.ensures in
    let end = rw c.in-Some-end_of.is at c.end_of.ensures in
    line-said a.text.now a.from c.not_separator_from-at.result c.in-Some.stop c.in-Some-end_of.e c.in-Some.kind c.in-Some.said c.in-Some.last (omega (arith, c.not_separator_from-at.ensures)) (rw c.not_separator_from-at.ensures (blank-to a.text.now a.from)) says end
