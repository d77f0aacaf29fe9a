-- `scan::far_failing_from` meets its contract. Assumes nothing.
use mathlib.Core.Path.{◌∙◌}
use Rattle.scan.specs.Reach.{fails}
use Rattle.scan.proofs.Eights.{fails-none}
use Rattle.scan.proofs.far_failing_from.Goals as goal

pub returns : goal.returns
returns g c t a = c.failing_from.ensures t a ∙ c.eights_passed.ensures t a (fails t) (fails-none t)
