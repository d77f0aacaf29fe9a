-- `scan::far_byte_from` meets its contract. Assumes nothing.
use mathlib.Core.Path.{◌∙◌}
use Rattle.std.proofs.Common.{rules}
use Rattle.scan.specs.Reach.{other}
use Rattle.scan.specs.declared.Until.TheVariants.{Byte}
use Rattle.scan.proofs.Passing.{stops_so, stops_at_byte}
use Rattle.scan.proofs.far_byte_from.Goals as goal

pub returns : goal.returns
returns c = let x = c.args.x in c.far_failing_from.ensures (other x) (λ b h r p. search rules) ∙ stops_so (Byte x) (other x) (stops_at_byte x) c.args.s.now c.args.from
