use mathlib.Core.Path.{◌≡◌}
use lib.ListN.{length, take}
use Rattle.output.specs.Pen.{pen, Wrote}
use Rattle.shown.specs.Shown.{shown}
use Rattle.shown.proofs.put_shown.Given as goal

abbrev pub invariant-loop-b : goal.invariant-loop-b
invariant-loop-b l = (length l.out ≡ length l.initial.out) × Wrote (pen l.initial.out l.at) (shown (take l.b-index l.line)) (pen l.out l.to)
