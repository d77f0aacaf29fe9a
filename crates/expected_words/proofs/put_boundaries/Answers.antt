-- `expected_words::put_boundaries` meets its contract: by the edition. Assumes nothing.
use Rattle.terms.specs.Ascii.{ascii}
use Rattle.expected_law.specs.Telling.{joined, item_words}
use Rattle.expected_words.proofs.put_boundaries.Goals as goal

pub returns-in-March2007 : goal.returns-in-March2007
unfolding ascii joined item_words
returns-in-March2007 c = rw c.in-March2007.is c.put_bytes.ensures

pub returns-in-December2006 : goal.returns-in-December2006
unfolding ascii joined item_words
returns-in-December2006 c = rw c.in-December2006.is c.put_bytes-in-December2006.ensures
