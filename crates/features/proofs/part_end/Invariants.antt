use mathlib.Core.Path.{◌≡◌}
use Prim.Native.Nat.{◌-◌, ◌≤◌, max}
use Rattle.features.specs.Drawn.{part_end}
use Rattle.features.proofs.part_end.Given as goal

abbrev pub invariant-loop-row : goal.invariant-loop-row
invariant-loop-row l = (part_end l.checkpoints l.behind l.row (l.count - l.row) ≡ part_end l.checkpoints l.behind l.next (l.count - l.next)) × (l.row ≤ max l.next l.count)
