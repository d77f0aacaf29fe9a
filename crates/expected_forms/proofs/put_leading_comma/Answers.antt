-- `expected_forms::put_leading_comma` meets its contract. Assumes nothing.
use Rattle.terms.specs.Ascii.{ascii}
use Rattle.output.proofs.Writing.{none}
use Rattle.expected_forms.specs.Listing.{leading_comma}
use Rattle.expected_forms.proofs.put_leading_comma.Goals as goal

pub returns-then-list : goal.returns-then-list
unfolding leading_comma ascii
returns-then-list c = rw c.if-list.true c.put_bytes.ensures

pub returns : goal.returns
unfolding leading_comma
returns c = rw c.if-list.false none
