-- `expected_words::put_range` meets its contract: a run of puts. Assumes nothing.
use Rattle.terms.specs.Ascii.{ascii}
use Rattle.number.specs.House.{house_integer}
use Rattle.output.proofs.Writing.{◌then◌}
use Rattle.expected_words.proofs.put_range.Goals as goal

pub returns : goal.returns
unfolding ascii house_integer
returns c = c.put_bytes-a.ensures then (c.put_integer-b.ensures then (c.put_bytes-c.ensures then c.put_integer.ensures))
