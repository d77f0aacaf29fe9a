-- `expected_forms::put_also` meets its contract. Assumes nothing.
use Rattle.expected_forms.proofs.PutLists.{no-form, one_form}
use Rattle.expected_forms.proofs.put_also.Goals as goal

pub returns-then-may : goal.returns-then-may
returns-then-may c = rw c.if-may.true (one_form _ c.put_leading_comma-a.ensures c.put_form-b.ensures)

pub returns : goal.returns
returns c = rw c.if-may.false no-form
