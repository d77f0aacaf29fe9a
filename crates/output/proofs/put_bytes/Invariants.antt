use mathlib.Core.Path.{◌≡◌}
use lib.ListN.{length, take}
use Rattle.output.specs.Pen.{pen, Wrote}
use Rattle.output.proofs.put_bytes.Given as goal

abbrev pub invariant-loop-b : goal.invariant-loop-b
invariant-loop-b l = (length l.out ≡ length l.initial.out) × Wrote (pen l.initial.out l.at) (take l.b-index l.s) (pen l.out l.to)
