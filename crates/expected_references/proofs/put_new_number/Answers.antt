-- `expected_references::put_new_number` meets its contract. Assumes nothing.
use Rattle.terms.specs.Ascii.{ascii}
use Rattle.expected_law.specs.Telling.{told}
use Rattle.expected_references.proofs.put_new_number.Goals as goal

pub returns : goal.returns
unfolding told ascii
returns c = c.put_bytes.ensures
