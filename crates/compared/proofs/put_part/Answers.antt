-- `compared::put_part` meets its contract: nothing, or a run of puts. Assumes nothing.
use mathlib.Core.Path.{◌∙◌}
use Rattle.terms.specs.Ascii.{ascii}
use Rattle.output.proofs.Writing.{none, same, ◌then◌}
use Rattle.compared.proofs.Opening.{no_part, some-part}
use Rattle.compared.proofs.put_part.Goals as goal

pub returns-then-part-eq0 : goal.returns-then-part-eq0
returns-then-part-eq0 c = same (no_part _ c.if-part-eq0.true) none

pub shape_of-out : goal.shape_of-out
shape_of-out c =
    c.put_byte.auto.out ∙ c.put_bytes-b.auto.out ∙ c.put_bytes-a.auto.out

pub returns : goal.returns
unfolding ascii
returns c =
    same (some-part _ c.if-part-eq0.false) (c.put_bytes-a.ensures then c.put_bytes-b.ensures then c.put_byte.ensures)
