-- `scan::not_outside_from` meets its contract. Assumes nothing.
use mathlib.Core.Path.{◌∙◌}
use Rattle.scan.specs.Allowed.{outside}
use Rattle.scan.specs.declared.Until.TheVariants.{NotOutside}
use Rattle.scan.proofs.Reach.{not-outside}
use Rattle.scan.proofs.Passing.{stops_so}
use Rattle.scan.proofs.not_outside_from.Goals as goal

pub returns : goal.returns
returns c = c.failing_from.ensures outside (λ b h r p. p) ∙ stops_so NotOutside outside not-outside c.args.s.now c.args.from
