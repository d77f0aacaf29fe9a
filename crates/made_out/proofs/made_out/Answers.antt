-- `made_out::made_out` meets its contract. Assumes nothing.
use mathlib.Core.Path.{sym, ◌∙◌}
use borrow.Author.Tests.{ltb-true, lt-ltb, le-ltb}
use Rattle.made_out.specs.Made.{made_within}
use Rattle.made_out.proofs.made_out.Goals as goal
use Rattle.made_out.proofs.made_out.Goals.{else-kind-lt30-via-then-kind-lt30+else-line_fits, else-kind-lt30-via-else-kind-lt30}

pub made_of_kind-requires : goal.made_of_kind-requires
made_of_kind-requires c = (ltb-true _ 4294967296 (sym c.line_fits.ensures ∙ c.if-line_fits.true), c.if-kind-lt30.true)

pub returns-then-line_fits : goal.returns-then-line_fits
unfolding made_within
returns-then-line_fits c = rw (lt-ltb _ 30 c.if-kind-lt30.true, sym c.line_fits.ensures ∙ c.if-line_fits.true) c.made_of_kind.ensures

pub returns-else-kind-lt30 : goal.returns-else-kind-lt30
unfolding made_within
returns-else-kind-lt30 c =
    elim c.else-kind-lt30.branch [ else-kind-lt30-via-then-kind-lt30+else-line_fits w ↦ rw (lt-ltb _ 30 w.if-kind-lt30.true, sym w.line_fits.ensures ∙ w.if-line_fits.false) | else-kind-lt30-via-else-kind-lt30 w ↦ rw (le-ltb _ 30 w.if-kind-lt30.false) ]
