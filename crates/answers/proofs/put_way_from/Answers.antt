-- `answers::put_way_from` meets its contract: the start, or the goal before. Assumes nothing.
use mathlib.Core.Path.{◌∙◌}
use Rattle.terms.specs.Ascii.{ascii}
use Rattle.output.proofs.Writing.{same, ◌then◌}
use Rattle.answers.proofs.Cases.{from_start, from-goal}
use Rattle.answers.proofs.put_way_from.Goals as goal

pub returns-then-row-eq0 : goal.returns-then-row-eq0
returns-then-row-eq0 c = same (from_start _ _ _ c.if-row-eq0.true) c.put_bytes.ensures

pub shape_of-out : goal.shape_of-out
shape_of-out c =
    c.put_integer.auto.out ∙ c.put_bytes-a.auto.out

pub returns : goal.returns
unfolding ascii
returns c =
    same (from-goal _ _ _ _ c.if-row-eq0.false c.goal_number.ensures) (c.put_bytes-a.ensures then c.put_integer.ensures)
