-- `expected_forms::is_due_order` meets its contract. Assumes nothing.
use Rattle.expected_forms.specs.Forms.{is_due_order_of}
use Rattle.expected_forms.proofs.is_due_order.Goals as goal

pub returns : goal.returns
unfolding is_due_order_of
returns c = rw (← c.cell.ensures)
