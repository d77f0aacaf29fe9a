-- `answers::put_unplaced` meets its contract: a run of puts. Assumes nothing.
use mathlib.Core.Path.{◌∙◌}
use Rattle.terms.specs.Ascii.{ascii}
use Rattle.output.proofs.Writing.{◌then◌}
use Rattle.answers.specs.Answers.{unplaced}
use Rattle.answers.proofs.put_unplaced.Goals as goal

pub shape_of-out : goal.shape_of-out
shape_of-out c =
    c.put_bytes.auto.out ∙ c.put_integer-e.auto.out ∙ c.put_bytes-d.auto.out ∙ c.put_reason_of-c.auto.out ∙ c.put_bytes-b.auto.out ∙ c.put_bytes-a.auto.out

pub returns : goal.returns
unfolding ascii unplaced
returns c =
    c.put_bytes-a.ensures then c.put_bytes-b.ensures then c.put_reason_of-c.ensures then c.put_bytes-d.ensures then c.put_integer-e.ensures then c.put_bytes.ensures
