use mathlib.Core.Path.{◌≡◌}
use Prim.Native.Nat.{◌+◌, ◌-◌, ◌≤◌}
use lib.ListN.{length}
use Rattle.line.specs.Lines.{lines_of}
use Rattle.column.specs.Before.{bytes_before}
use Rattle.column.proofs.Lines.{start_from}
use Rattle.column.proofs.start_of_line.Given as goal

abbrev pub invariant-loop-from : goal.invariant-loop-from
invariant-loop-from l = (l.from ≤ length l.text + 1) × (l.line ≤ l.from + 1) × (start_from l.text l.from l.line l.wanted ≡ bytes_before 1 l.wanted (lines_of l.text))

abbrev pub decreases-loop-from : goal.decreases-loop-from
decreases-loop-from l = length l.text + 1 - l.from
