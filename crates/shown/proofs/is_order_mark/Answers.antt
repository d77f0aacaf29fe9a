-- `shown::is_order_mark` meets its contract. Assumes nothing.
use mathlib.Core.Path.{refl}
use Rattle.shown.proofs.is_order_mark.Goals as goal

pub returns : goal.returns
returns c = rw (c.same-three.ensures, c.same-low.ensures, c.same-high.ensures, c.first.ensures, c.first-2.ensures, c.first-3.ensures) refl
