-- `compared::put_differ` meets its contract: a run of puts. Assumes nothing.
use mathlib.Core.Path.{ap, ◌∙◌}
use mathlib.Core.List.{[]}
use Rattle.terms.specs.Ascii.{Bytes, ascii}
use Rattle.line.specs.Lines.{lines_of}
use Rattle.output.proofs.Writing.{same, ◌then◌}
use Rattle.compared.specs.Compared.{last_opening_of, part_told, differ_told}
use Rattle.compared.proofs.put_differ.Goals as goal

pub shape_of-out : goal.shape_of-out
shape_of-out c =
    c.put_part.auto.out ∙ c.put_line-e.auto.out ∙ c.put_line-d.auto.out ∙ c.put_bytes-c.auto.out

pub returns : goal.returns
unfolding ascii differ_told
returns c =
    c.put_bytes-c.ensures then c.put_line-d.ensures then c.put_line-e.ensures then same (ap part_told (c.last_opening.ensures ∙ ap (λ (s : Bytes). last_opening_of [] (lines_of s)) c.first.ensures)) c.put_part.ensures
