-- `answers::put_rndf_accepted` meets its contract: what is the matter with the MDF, or a run of puts. Assumes nothing.
use mathlib.Core.Path.{◌∙◌}
use Rattle.terms.specs.Ascii.{ascii}
use Rattle.output.proofs.Writing.{same, ◌then◌}
use Rattle.answers.proofs.Cases.{in-trouble, no-trouble}
use Rattle.answers.proofs.put_rndf_accepted.Goals as goal

pub returns-then-trouble-gt0 : goal.returns-then-trouble-gt0
returns-then-trouble-gt0 c = same (in-trouble _ _ _ c.if-trouble-gt0.true) c.put_bytes.ensures

pub shape_of-out : goal.shape_of-out
shape_of-out c =
    c.put_byte.auto.out ∙ c.put_network_counts-d.auto.out ∙ c.put_bytes-b.auto.out ∙ c.put_bytes-a.auto.out

pub returns : goal.returns
unfolding ascii
returns c =
    same (no-trouble _ _ _ c.if-trouble-gt0.false) (c.put_bytes-a.ensures then c.put_bytes-b.ensures then c.put_network_counts-d.ensures then c.put_byte.ensures)
