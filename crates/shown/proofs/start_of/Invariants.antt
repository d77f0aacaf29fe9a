use mathlib.Core.Path.{◌≡◌}
use Prim.Native.Nat.{◌-◌}
use lib.ListN.{length, drop}
use Rattle.line.specs.Lines.{lines_of}
use Rattle.shown.proofs.start_of.Given as goal

abbrev pub invariant-loop-from : goal.invariant-loop-from
invariant-loop-from l = drop (l.left - 1) (lines_of (drop l.from l.text)) ≡ drop (l.wanted - 1) (lines_of l.text)

abbrev pub decreases-loop-from : goal.decreases-loop-from
decreases-loop-from l = length l.text - l.from
