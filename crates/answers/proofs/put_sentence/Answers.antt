-- `answers::put_sentence` meets its contract: a run of puts. Assumes nothing.
use mathlib.Core.Path.{ap, ◌∙◌}
use Rattle.terms.specs.Ascii.{Bytes, ascii}
use Rattle.output.proofs.Writing.{same, ◌then◌}
use Rattle.answers.specs.Answers.{why_of, sentence}
use Rattle.answers.proofs.put_sentence.Goals as goal

pub shape_of-out : goal.shape_of-out
shape_of-out c =
    c.put_why.auto.out ∙ c.put_bytes-d.auto.out ∙ c.put_place-c.auto.out ∙ c.put_place-b.auto.out ∙ c.put_bytes-a.auto.out

pub returns : goal.returns
unfolding ascii sentence
returns c =
    let s = c.args in
    c.put_bytes-a.ensures then c.put_place-b.ensures then c.put_place-c.ensures then c.put_bytes-d.ensures then same (ap (λ (l : Bytes). why_of l s.number s.column) c.line_of.ensures) c.put_why.ensures
