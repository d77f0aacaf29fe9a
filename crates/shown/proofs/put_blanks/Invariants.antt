use mathlib.Core.Path.{◌≡◌}
use lib.ListN.{length, take}
use Rattle.output.specs.Pen.{pen, Wrote}
use Rattle.shown.specs.Shown.{blanks}
use Rattle.shown.proofs.put_blanks.Given as goal

abbrev pub invariant-loop-b : goal.invariant-loop-b
invariant-loop-b l = (length l.out ≡ length l.initial.out) × Wrote (pen l.initial.out l.at) (blanks (take l.b-index l.line)) (pen l.out l.to)
