-- `answers::put_why` meets its contract: a run of puts. Assumes nothing.
use mathlib.Core.Path.{◌∙◌}
use Rattle.terms.specs.Ascii.{ascii}
use Rattle.number.specs.House.{house_integer}
use Rattle.output.proofs.Writing.{◌then◌}
use Rattle.answers.specs.Answers.{why_of}
use Rattle.answers.proofs.put_why.Goals as goal

pub shape_of-out : goal.shape_of-out
shape_of-out c =
    c.put_picture.auto.out ∙ c.put_bytes-e.auto.out ∙ c.put_integer-d.auto.out ∙ c.put_bytes-c.auto.out ∙ c.put_detail-b.auto.out ∙ c.put_reason-a.auto.out

pub returns : goal.returns
unfolding ascii why_of house_integer
returns c =
    c.put_reason-a.ensures then c.put_detail-b.ensures then c.put_bytes-c.ensures then c.put_integer-d.ensures then c.put_bytes-e.ensures then c.put_picture.ensures
