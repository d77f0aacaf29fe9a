-- `expected::put_expected_line` meets its contract: the words, and an LF where the pen moved. Assumes nothing.
use Rattle.expected.proofs.Lines.{no_line, own_line}
use Rattle.expected.proofs.put_expected_line.Goals as goal

pub returns-then-to-at : goal.returns-then-to-at
returns-then-to-at c = no_line _ c.put_expected-to.ensures c.if-to-at.true

pub returns : goal.returns
returns c =
    own_line _ c.put_expected-to.ensures c.if-to-at.false c.put_line_end.ensures
