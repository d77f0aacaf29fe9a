-- `edition_judge::side_bars` meets its contract. Assumes nothing.
use mathlib.Core.Path.{refl}
use borrow.Author.Tests.{eq-eqb, ne_eqb}
use Rattle.place_table.specs.Verdicts.{verdict_of}
use Rattle.edition_judge.specs.EditionLine.{side_bars_of}
use Rattle.edition_judge.proofs.side_bars.Goals as goal

pub returns-then-boundary-eq2 : goal.returns-then-boundary-eq2
unfolding side_bars_of verdict_of
returns-then-boundary-eq2 c = rw (eq-eqb _ 2 c.if-boundary-eq2.true) refl

pub returns-else-boundary-eq2 : goal.returns-else-boundary-eq2
unfolding side_bars_of verdict_of
returns-else-boundary-eq2 c = rw (ne_eqb _ 2 c.if-boundary-eq2.false) refl
