-- `mend_words::put_line` meets its contract: a run of puts. Assumes nothing.
use mathlib.Core.Path.{ap, ◌∙◌}
use Rattle.terms.specs.Ascii.{ascii}
use Rattle.number.specs.House.{house_integer}
use Rattle.output.proofs.Writing.{same, ◌then◌}
use Rattle.mend_words.specs.Told.{at_line}
use Rattle.mend_words.proofs.put_line.Goals as goal

pub shape_of-out : goal.shape_of-out
shape_of-out c =
    c.put_bytes.auto.out ∙ c.put_integer-c.auto.out ∙ c.put_bytes-b.auto.out ∙ c.put_bytes-a.auto.out

pub returns : goal.returns
unfolding ascii at_line
returns c =
    c.put_bytes-a.ensures then c.put_bytes-b.ensures then same (ap house_integer c.in_word.ensures) c.put_integer-c.ensures then c.put_bytes.ensures
