-- `expected_lines::put_mdf_words` meets its contract. Assumes nothing.
use Rattle.output.proofs.Writing.{none}
use Rattle.expected_lines.specs.Words.{mdf_words}
use Rattle.expected_lines.proofs.put_mdf_words.Goals as goal

pub returns-in_default : goal.returns-in_default
unfolding mdf_words
returns-in_default c = rw (← c.mission_place_before.ensures, c.in_default.is) none

pub returns : goal.returns
unfolding mdf_words
returns c = rw (← c.mission_place_before.ensures, c.in-Some.is, ← c.line_of.ensures) c.put_mdf_line.ensures
