-- `made_out::order_made_out` meets its contract. Assumes nothing.
use mathlib.Core.Path.{sym, ◌∙◌}
use borrow.Author.Tests.{ltb-true, lt-ltb, le-ltb}
use Rattle.made_out.specs.MadeOrders.{order_made_within}
use Rattle.made_out.proofs.order_made_out.Goals as goal
use Rattle.made_out.proofs.order_made_out.Goals.{else-kind-lt13-via-then-kind-lt13+else-line_fits, else-kind-lt13-via-else-kind-lt13}

pub order_of_kind-requires : goal.order_of_kind-requires
order_of_kind-requires c = (ltb-true _ 4294967296 (sym c.line_fits.ensures ∙ c.if-line_fits.true), c.if-kind-lt13.true)

pub returns-then-line_fits : goal.returns-then-line_fits
unfolding order_made_within
returns-then-line_fits c = rw (lt-ltb _ 13 c.if-kind-lt13.true, sym c.line_fits.ensures ∙ c.if-line_fits.true) c.order_of_kind.ensures

pub returns-else-kind-lt13 : goal.returns-else-kind-lt13
unfolding order_made_within
returns-else-kind-lt13 c =
    elim c.else-kind-lt13.branch [ else-kind-lt13-via-then-kind-lt13+else-line_fits w ↦ rw (lt-ltb _ 13 w.if-kind-lt13.true, sym w.line_fits.ensures ∙ w.if-line_fits.false) | else-kind-lt13-via-else-kind-lt13 w ↦ rw (le-ltb _ 13 w.if-kind-lt13.false) ]
