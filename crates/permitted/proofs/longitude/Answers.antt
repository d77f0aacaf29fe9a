-- `permitted::longitude` meets its contract. Assumes nothing.
use mathlib.Core.Path.{◌∙◌}
use Rattle.permitted.proofs.Signs.{not-below, below}
use Rattle.permitted.specs.Tests.{is_longitude}
use Rattle.permitted.proofs.longitude.Goals as goal

pub returns-then-z-ge-LEAST_LONGITUDE : goal.returns-then-z-ge-LEAST_LONGITUDE
unfolding is_longitude
returns-then-z-ge-LEAST_LONGITUDE c = not-below 179999999 _ c.ranges.z c.if-z-ge-LEAST_LONGITUDE.true

pub returns-else-z-ge-LEAST_LONGITUDE : goal.returns-else-z-ge-LEAST_LONGITUDE
unfolding is_longitude
returns-else-z-ge-LEAST_LONGITUDE c = c.if-z-ge-LEAST_LONGITUDE.false ∙ below 179999999 _ c.ranges.z c.if-z-ge-LEAST_LONGITUDE.false
