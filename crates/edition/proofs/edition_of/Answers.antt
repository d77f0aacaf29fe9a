-- `edition::edition_of` meets its contract. Assumes nothing.
use mathlib.Core.Path.{refl}
use borrow.Author.Tests.{eq-eqb, ne_eqb}
use Rattle.edition.specs.Editions.{edition_numbered}
use Rattle.edition.proofs.edition_of.Goals as goal

pub returns-then-number-eq1 : goal.returns-then-number-eq1
unfolding edition_numbered
returns-then-number-eq1 c = rw (eq-eqb _ 1 c.if-number-eq1.true) refl

pub returns-else-number-eq1 : goal.returns-else-number-eq1
unfolding edition_numbered
returns-else-number-eq1 c = rw (ne_eqb _ 1 c.if-number-eq1.false) refl
