-- `expected_words::put_maximum_words` meets its contract: a run of puts. Assumes nothing.
use Rattle.terms.specs.Ascii.{ascii}
use Rattle.output.proofs.Writing.{◌then◌}
use Rattle.expected_law.specs.Telling.{item_words}
use Rattle.expected_words.proofs.put_maximum_words.Goals as goal

pub returns : goal.returns
unfolding ascii item_words
returns c = c.put_bytes-a.ensures then (c.put_bytes-b.ensures then c.put_bytes.ensures)
