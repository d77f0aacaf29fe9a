-- `house_lines::needs_mending` meets its contract. Assumes nothing.
use Rattle.terms.specs.Ascii.{ascii}
use Rattle.house_lines.specs.Said.{mends}
use Rattle.house_lines.proofs.needs_mending.Goals as goal

pub returns-then-point : goal.returns-then-point
unfolding mends ascii
returns-then-point c = rw c.if-point.true c.same.ensures

pub returns-else-point : goal.returns-else-point
unfolding mends
returns-else-point c = rw c.if-point.false
