-- `output::put_tab` meets its contract. Assumes nothing.
use Rattle.terms.specs.Ascii.{ascii}
use Rattle.output.proofs.put_tab.Goals as goal

pub returns : goal.returns
unfolding ascii
returns c = c.put_byte.ensures
