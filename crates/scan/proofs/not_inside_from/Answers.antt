-- `scan::not_inside_from` meets its contract. Assumes nothing.
use mathlib.Core.Path.{◌∙◌}
use Rattle.scan.specs.Allowed.{inside}
use Rattle.scan.specs.declared.Until.TheVariants.{NotInside}
use Rattle.scan.proofs.Reach.{not-inside}
use Rattle.scan.proofs.Passing.{stops_so}
use Rattle.scan.proofs.not_inside_from.Goals as goal

pub returns : goal.returns
returns c = c.far_failing_from.ensures inside (λ b h r p. p) ∙ stops_so NotInside inside not-inside c.args.s.now c.args.from
