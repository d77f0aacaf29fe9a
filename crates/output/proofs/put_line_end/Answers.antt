-- `output::put_line_end` meets its contract. Assumes nothing.
use Rattle.terms.specs.Ascii.{ascii}
use Rattle.output.proofs.put_line_end.Goals as goal

pub returns : goal.returns
unfolding ascii
returns c = c.put_byte.ensures
