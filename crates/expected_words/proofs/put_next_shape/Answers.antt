-- `expected_words::put_next_shape` meets its contract: a space and the shape. Assumes nothing.
use Rattle.terms.specs.Ascii.{ascii}
use Rattle.output.proofs.Writing.{◌then◌}
use Rattle.expected_words.proofs.put_next_shape.Goals as goal

pub returns : goal.returns
unfolding ascii
returns c = c.put_bytes-a.ensures then c.put_shape.ensures
