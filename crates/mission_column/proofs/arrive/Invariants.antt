use mathlib.Core.Path.{◌≡◌}
use Prim.Native.Nat.{◌+◌, ◌-◌, ◌≤◌}
use lib.ListN.{length}
use Rattle.mission_column.specs.Before.{arrived}
use Rattle.mission_column.proofs.Lines.{rest}
use Rattle.mission_column.proofs.arrive.Given as goal

abbrev pub invariant-loop-from : goal.invariant-loop-from
invariant-loop-from l = (l.from ≤ length l.text + 1) × (l.line ≤ l.from + 1) × (rest l.text l.place l.from l.line l.wanted ≡ arrived l.text l.wanted)

abbrev pub decreases-loop-from : goal.decreases-loop-from
decreases-loop-from l = length l.text + 1 - l.from
