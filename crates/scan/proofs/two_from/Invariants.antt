use mathlib.Core.Path.{◌≡◌}
use Rattle.scan.specs.Reach.{reach, stops_by}
use Rattle.scan.specs.declared.Until.TheVariants.{Two}
use Rattle.scan.proofs.two_from.Given as goal

abbrev pub invariant-loop-i : goal.invariant-loop-i
invariant-loop-i l = reach (stops_by (Two l.x l.y)) l.s l.i ≡ reach (stops_by (Two l.x l.y)) l.s l.near
