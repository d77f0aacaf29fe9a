-- `expected_forms::order_form` meets its contract. Assumes nothing.
use Rattle.expected_forms.specs.Forms.{order_form_of}
use Rattle.expected_forms.proofs.order_form.Goals as goal

pub returns : goal.returns
unfolding order_form_of
returns c = rw (← c.order_fields_needed.ensures, ← c.order_first.ensures, ← c.order_second.ensures)
