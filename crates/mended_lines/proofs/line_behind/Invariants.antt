use mathlib.Core.Path.{◌≡◌}
use Prim.Native.Nat.{◌+◌, ◌-◌, ◌≤◌}
use lib.ListN.{length, drop}
use Rattle.line.specs.Lines.{lines_of}
use Rattle.mend_lines.specs.Forward.{none_before_of}
use Rattle.mended_lines.specs.Given.{given_from}
use Rattle.mended_lines.proofs.line_behind.Given as goal

abbrev pub invariant-loop-from : goal.invariant-loop-from
invariant-loop-from l = (given_from l.line l.left l.before (lines_of (drop l.from l.text)) ≡ given_from 1 l.passed none_before_of (lines_of l.text)) × (l.line ≤ l.from + 1)

abbrev pub decreases-loop-from : goal.decreases-loop-from
decreases-loop-from l = length l.text + 1 - l.from
