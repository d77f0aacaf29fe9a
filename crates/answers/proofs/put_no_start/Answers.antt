-- `answers::put_no_start` meets its contract: a run of puts. Assumes nothing.
use mathlib.Core.Path.{◌∙◌}
use Rattle.terms.specs.Ascii.{ascii}
use Rattle.output.proofs.Writing.{◌then◌}
use Rattle.answers.specs.Answers.{no_start}
use Rattle.answers.proofs.put_no_start.Goals as goal

pub shape_of-out : goal.shape_of-out
shape_of-out c =
    c.put_bytes.auto.out ∙ c.put_bytes-c.auto.out ∙ c.put_bytes-b.auto.out ∙ c.put_bytes-a.auto.out

pub returns : goal.returns
unfolding ascii no_start
returns c =
    c.put_bytes-a.ensures then c.put_bytes-b.ensures then c.put_bytes-c.ensures then c.put_bytes.ensures
