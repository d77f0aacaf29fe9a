-- `expected_forms::rndf_form` meets its contract. Assumes nothing.
use Rattle.expected_forms.specs.Forms.{rndf_form_of}
use Rattle.expected_forms.proofs.rndf_form.Goals as goal

pub returns : goal.returns
unfolding rndf_form_of
returns c = rw (← c.fields_needed.ensures, ← c.first_item.ensures, ← c.second_item.ensures, ← c.third_item.ensures)
