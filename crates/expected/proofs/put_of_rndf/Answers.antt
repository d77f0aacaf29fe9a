-- `expected::put_of_rndf` meets its contract: an arm for each number. Assumes nothing.
use Rattle.output.proofs.Writing.{same}
use Rattle.expected.proofs.Cases.{of_entry, of_number, of-rndf-form}
use Rattle.expected.proofs.put_of_rndf.Goals as goal

pub returns-in-12 : goal.returns-in-12
returns-in-12 c = same (of_entry _ _ _ _ c.in-12.is) c.put_entries.ensures

pub returns-in-13 : goal.returns-in-13
returns-in-13 c = same (of_number _ _ _ _ c.in-13.is) c.put_new_number.ensures

pub returns-in_default : goal.returns-in_default
returns-in_default c =
    same (of-rndf-form _ _ _ _ c.in_default.in_default-own.rest.0.1 c.in_default.in_default-own.rest.1) c.put_rndf_words.ensures
