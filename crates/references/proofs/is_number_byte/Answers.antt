-- `references::is_number_byte` meets its contract. Assumes nothing.
use Rattle.references.proofs.is_number_byte.Goals as goal

pub returns : goal.returns
returns c = rw c.is_digit.ensures
