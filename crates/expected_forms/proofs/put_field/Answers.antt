-- `expected_forms::put_field` meets its contract. Assumes nothing.
use Rattle.terms.specs.Ascii.{ascii}
use Rattle.output.proofs.Writing.{◌then◌}
use Rattle.expected_law.specs.Telling.{told}
use Rattle.expected_forms.proofs.put_field.Goals as goal

pub returns : goal.returns
unfolding ascii told
returns c = c.put_bytes-a.ensures then c.put_item.ensures
