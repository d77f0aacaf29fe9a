-- `scan::separator_from` meets its contract. Assumes nothing.
use mathlib.Core.Path.{◌∙◌}
use mathlib.Core.Bool.{not}
use Rattle.std.proofs.Common.{rules}
use Rattle.scan.specs.Allowed.{separates}
use Rattle.scan.specs.declared.Until.TheVariants.{Separator}
use Rattle.scan.proofs.Passing.{stops_so, stops_at_separator}
use Rattle.scan.proofs.separator_from.Goals as goal

pub returns : goal.returns
returns c = c.failing_from.ensures (λ b. not (separates b)) (λ b h r p. search rules) ∙ stops_so Separator (λ b. not (separates b)) stops_at_separator c.args.s.now c.args.from
