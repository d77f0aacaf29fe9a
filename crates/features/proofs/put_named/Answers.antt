-- `features::put_named` meets its contract. Assumes nothing.
use mathlib.Core.Path.{ap}
use borrow.Author.Tests.{eq-eqb, ne_eqb}
use Rattle.terms.specs.Ascii.{ascii}
use Rattle.output.proofs.Writing.{same, ◌then◌}
use Rattle.features.specs.Drawn.{quoted, named}
use Rattle.features.proofs.put_named.Goals as goal

pub returns-then-name-eq0 : goal.returns-then-name-eq0
unfolding ascii named
returns-then-name-eq0 c = rw (eq-eqb _ _ c.if-name-eq0.true) c.put_bytes.ensures

pub returns : goal.returns
unfolding ascii named
returns c = rw (ne_eqb _ _ c.if-name-eq0.false) (c.put_bytes-a.ensures then same (ap quoted c.name_of.ensures) c.put_quoted-b.ensures then c.put_bytes-2.ensures)
