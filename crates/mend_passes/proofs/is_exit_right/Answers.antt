-- `mend_passes::is_exit_right` meets its contract. Assumes nothing.
use borrow.Author.Tests.{eq-eqb, ne_eqb}
use Rattle.mend_tests.specs.Tests.{is_exit_right_of}
use Rattle.mend_passes.proofs.is_exit_right.Goals as goal

pub returns-then-rndf_line_kind-ne-EXIT : goal.returns-then-rndf_line_kind-ne-EXIT
unfolding is_exit_right_of
returns-then-rndf_line_kind-ne-EXIT c = rw (← c.rndf_line_kind.ensures, ne_eqb _ 16 c.if-rndf_line_kind-ne-EXIT.true)

pub returns-in-Some : goal.returns-in-Some
unfolding is_exit_right_of
returns-in-Some c = rw (← c.rndf_line_kind.ensures, eq-eqb _ 16 c.if-rndf_line_kind-ne-EXIT.false, ← c.entry_on.ensures, ← c.resolve-found.ensures, c.in-Some.is)

pub returns-in-None : goal.returns-in-None
unfolding is_exit_right_of
returns-in-None c = rw (← c.rndf_line_kind.ensures, eq-eqb _ 16 c.if-rndf_line_kind-ne-EXIT.false, ← c.entry_on.ensures, ← c.resolve-found.ensures, c.in-None.is)
