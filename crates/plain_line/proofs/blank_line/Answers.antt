-- `plain_line::blank_line` meets its contract. Assumes nothing.
use Rattle.plain_line.proofs.Whole.{line-blank}
use Rattle.plain_line.proofs.blank_line.Goals as goal

-- src/lib.rt:278:1
pub returns : goal.returns
returns c =
    let a = c.args in
    line-blank a.text.now a.from c.in-Some.e (rw c.in-Some.is at c.end_of.ensures)
