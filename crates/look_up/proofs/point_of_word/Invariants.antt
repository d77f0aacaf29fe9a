use Prim.Native.Nat.{◌-◌, ◌≤◌}
use Rattle.look_up.specs.LookUp.{NoneBefore}
use Rattle.look_up.proofs.point_of_word.Given as goal

abbrev pub invariant-loop-row : goal.invariant-loop-row
invariant-loop-row l = (l.row ≤ l.row-end) × NoneBefore l.checkpoints l.row l.wanted

abbrev pub decreases-loop-row : goal.decreases-loop-row
decreases-loop-row l = l.row-end - l.row
