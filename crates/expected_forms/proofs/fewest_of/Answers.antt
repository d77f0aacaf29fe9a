-- `expected_forms::fewest_of` meets its contract. Assumes nothing.
use Rattle.expected_forms.specs.Forms.{the_fewest_of}
use Rattle.expected_forms.proofs.fewest_of.Goals as goal

pub returns-in-March2007 : goal.returns-in-March2007
unfolding the_fewest_of
returns-in-March2007 c = rw c.in-March2007.is

pub returns-in-December2006 : goal.returns-in-December2006
unfolding the_fewest_of
returns-in-December2006 c = rw c.in-December2006.is
