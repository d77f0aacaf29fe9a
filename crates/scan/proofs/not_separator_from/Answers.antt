-- `scan::not_separator_from` meets its contract. Assumes nothing.
use mathlib.Core.Path.{◌∙◌}
use Rattle.scan.specs.Allowed.{separates}
use Rattle.scan.specs.declared.Until.TheVariants.{NotSeparator}
use Rattle.scan.proofs.Reach.{not-separator}
use Rattle.scan.proofs.Passing.{stops_so}
use Rattle.scan.proofs.not_separator_from.Goals as goal

pub returns : goal.returns
returns c = c.failing_from.ensures separates (λ b h r p. p) ∙ stops_so NotSeparator separates not-separator c.args.s.now c.args.from
