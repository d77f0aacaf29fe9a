-- `expected_forms::put_fields` meets its contract. Assumes nothing.
use mathlib.Core.Path.{ap}
use Rattle.terms.specs.Ascii.{ascii}
use Rattle.output.proofs.Writing.{same, ◌then◌}
use Rattle.expected_forms.specs.Listing.{field_count}
use Rattle.expected_forms.proofs.PutLists.{fields_told}
use Rattle.expected_forms.proofs.put_fields.Goals as goal

pub returns : goal.returns
unfolding ascii
returns c =
    same (fields_told _) (c.put_bytes-a.ensures then (c.put_form-b.ensures then same (ap field_count c.items_of.ensures) c.put_field_count.ensures))
