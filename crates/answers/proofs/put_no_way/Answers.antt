-- `answers::put_no_way` meets its contract: a run of puts. Assumes nothing.
use mathlib.Core.Path.{ap, ◌∙◌}
use Rattle.terms.specs.Ascii.{ascii}
use Rattle.number.specs.House.{house_integer}
use Rattle.output.proofs.Writing.{same, ◌then◌}
use Rattle.answers.specs.Answers.{no_way}
use Rattle.answers.proofs.put_no_way.Goals as goal

pub shape_of-out : goal.shape_of-out
shape_of-out c =
    c.put_bytes.auto.out ∙ c.put_way_from-d.auto.out ∙ c.put_bytes-c.auto.out ∙ c.put_integer-b.auto.out ∙ c.put_bytes-a.auto.out

pub returns : goal.returns
unfolding ascii no_way
returns c =
    c.put_bytes-a.ensures then same (ap house_integer c.goal_number.ensures) c.put_integer-b.ensures then c.put_bytes-c.ensures then c.put_way_from-d.ensures then c.put_bytes.ensures
