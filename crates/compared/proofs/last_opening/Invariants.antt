use mathlib.Core.Path.{◌≡◌}
use mathlib.Core.List.{[]}
use Prim.Native.Nat.{◌-◌}
use lib.ListN.{length, drop}
use Rattle.line.specs.Lines.{lines_of}
use Rattle.compared.specs.Compared.{line_there, last_opening_of}
use Rattle.compared.proofs.last_opening.Given as goal

abbrev pub invariant-loop-from : goal.invariant-loop-from
invariant-loop-from l = last_opening_of (line_there l.front l.found) (lines_of (drop l.from l.front)) ≡ last_opening_of [] (lines_of l.front)

abbrev pub decreases-loop-from : goal.decreases-loop-from
decreases-loop-from l = length l.front - l.from
