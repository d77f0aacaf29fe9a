-- `expected_forms::put_list_end` meets its contract. Assumes nothing.
use Rattle.terms.specs.Ascii.{ascii}
use Rattle.expected_forms.specs.Listing.{list_end}
use Rattle.expected_forms.proofs.put_list_end.Goals as goal

pub returns-then-list : goal.returns-then-list
unfolding list_end
returns-then-list c = rw c.if-list.true c.put_owed.ensures

pub returns : goal.returns
unfolding list_end ascii
returns c = rw c.if-list.false c.put_bytes.ensures
