-- `edition_judge::spots_bar` meets its contract. Assumes nothing.
use mathlib.Core.Path.{refl}
use borrow.Author.Tests.{eq-eqb, ne_eqb}
use Rattle.place_table.specs.Verdicts.{verdict_of}
use Rattle.edition_judge.specs.EditionLine.{spots_bar_of}
use Rattle.edition_judge.proofs.spots_bar.Goals as goal

pub returns-then-count-eq0 : goal.returns-then-count-eq0
unfolding spots_bar_of verdict_of
returns-then-count-eq0 c = rw (eq-eqb _ 0 c.if-count-eq0.true) refl

pub returns-else-count-eq0 : goal.returns-else-count-eq0
unfolding spots_bar_of verdict_of
returns-else-count-eq0 c = rw (ne_eqb _ 0 c.if-count-eq0.false) refl
