-- `answers::put_stuck_at` meets its contract: a run of puts. Assumes nothing.
use mathlib.Core.Path.{ap, ◌∙◌}
use Rattle.terms.specs.Ascii.{Bytes, ascii}
use Rattle.output.proofs.Writing.{same, ◌then◌}
use Rattle.shown.specs.Shown.{picture}
use Rattle.answers.specs.Answers.{stuck_at}
use Rattle.answers.proofs.put_stuck_at.Goals as goal

pub shape_of-out : goal.shape_of-out
shape_of-out c =
    c.put_picture.auto.out ∙ c.put_no_way-e.auto.out ∙ c.put_bytes-d.auto.out ∙ c.put_place-c.auto.out ∙ c.put_place-b.auto.out ∙ c.put_bytes-a.auto.out

pub returns : goal.returns
unfolding ascii stuck_at
returns c =
    let a = c.args in
    c.put_bytes-a.ensures then c.put_place-b.ensures then c.put_place-c.ensures then c.put_bytes-d.ensures then c.put_no_way-e.ensures then same (ap (λ (l : Bytes). picture l a.column) c.line_of.ensures) c.put_picture.ensures
