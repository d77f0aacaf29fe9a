-- `answers::put_driven` meets its contract: a run of puts. Assumes nothing.
use mathlib.Core.Path.{◌∙◌}
use Rattle.terms.specs.Ascii.{ascii}
use Rattle.output.proofs.Writing.{◌then◌}
use Rattle.answers.proofs.put_driven.Goals as goal

pub shape_of-out : goal.shape_of-out
shape_of-out c =
    c.put_byte.auto.out ∙ c.put_bytes-c.auto.out ∙ c.put_bytes-b.auto.out ∙ c.put_bytes-a.auto.out

pub returns : goal.returns
unfolding ascii
returns c =
    c.put_bytes-a.ensures then c.put_bytes-b.ensures then c.put_bytes-c.ensures then c.put_byte.ensures
