-- `expected_words::put_number_words` meets its contract: the number that is due, or its range. Assumes nothing.
use Rattle.terms.specs.Ascii.{ascii}
use Rattle.output.proofs.Writing.{same, ◌then◌}
use Rattle.expected_words.proofs.Cases.{due-told, number-told}
use Rattle.expected_words.proofs.put_number_words.Goals as goal

pub returns-then-low-high : goal.returns-then-low-high
returns-then-low-high c = same (due-told _ _ c.if-low-high.true) c.put_integer.ensures

pub returns : goal.returns
unfolding ascii
returns c = same (number-told _ _ c.if-low-high.false) (c.put_bytes-a.ensures then c.put_range.ensures)
