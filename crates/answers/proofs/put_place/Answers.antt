-- `answers::put_place` meets its contract: `:n`, or nothing for 0. Assumes nothing.
use Rattle.terms.specs.Ascii.{ascii}
use Rattle.output.proofs.Writing.{none, same, ◌then◌}
use Rattle.answers.proofs.Cases.{no_place, some-place}
use Rattle.answers.proofs.put_place.Goals as goal

pub returns-then-n-eq0 : goal.returns-then-n-eq0
returns-then-n-eq0 c = same (no_place _ c.if-n-eq0.true) none

pub returns : goal.returns
unfolding ascii
returns c = same (some-place _ c.if-n-eq0.false) (c.put_bytes-a.ensures then c.put_integer.ensures)
