-- `permitted::latitude` meets its contract. Assumes nothing.
use mathlib.Core.Path.{◌∙◌}
use Rattle.permitted.proofs.Signs.{not-below, below}
use Rattle.permitted.specs.Tests.{is_latitude}
use Rattle.permitted.proofs.latitude.Goals as goal

pub returns-then-z-ge-LEAST_LATITUDE : goal.returns-then-z-ge-LEAST_LATITUDE
unfolding is_latitude
returns-then-z-ge-LEAST_LATITUDE c = not-below 89999999 _ c.ranges.z c.if-z-ge-LEAST_LATITUDE.true

pub returns-else-z-ge-LEAST_LATITUDE : goal.returns-else-z-ge-LEAST_LATITUDE
unfolding is_latitude
returns-else-z-ge-LEAST_LATITUDE c = c.if-z-ge-LEAST_LATITUDE.false ∙ below 89999999 _ c.ranges.z c.if-z-ge-LEAST_LATITUDE.false
