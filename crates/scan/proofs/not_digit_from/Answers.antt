-- `scan::not_digit_from` meets its contract. Assumes nothing.
use mathlib.Core.Path.{◌∙◌}
use Rattle.scan.specs.Allowed.{digit}
use Rattle.scan.specs.declared.Until.TheVariants.{NotDigit}
use Rattle.scan.proofs.Reach.{not_digit}
use Rattle.scan.proofs.Passing.{stops_so}
use Rattle.scan.proofs.not_digit_from.Goals as goal

pub returns : goal.returns
returns c = c.failing_from.ensures digit (λ b h r p. p) ∙ stops_so NotDigit digit not_digit c.args.s.now c.args.from
