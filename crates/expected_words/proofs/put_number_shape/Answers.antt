-- `expected_words::put_number_shape` meets its contract: the number that is due, or capitals. Assumes nothing.
use Rattle.terms.specs.Ascii.{ascii}
use Rattle.output.proofs.Writing.{same}
use Rattle.expected_words.proofs.Cases.{due-shape, number-shape}
use Rattle.expected_words.proofs.put_number_shape.Goals as goal

pub returns-then-low-high : goal.returns-then-low-high
returns-then-low-high c = same (due-shape _ _ c.if-low-high.true) c.put_integer.ensures

pub returns : goal.returns
unfolding ascii
returns c = same (number-shape _ _ c.if-low-high.false) c.put_bytes.ensures
