-- `expected_lines::put_rndf_words` meets its contract. Assumes nothing.
use Rattle.output.proofs.Writing.{none}
use Rattle.expected_lines.specs.Words.{rndf_words}
use Rattle.expected_lines.proofs.put_rndf_words.Goals as goal

pub returns-in_default : goal.returns-in_default
unfolding rndf_words
returns-in_default c = rw (← c.place_before.ensures, c.in_default.is) none

pub returns : goal.returns
unfolding rndf_words
returns c = rw (← c.place_before.ensures, c.in-Some.is, ← c.line_of.ensures) c.put_rndf_line.ensures
