use mathlib.Core.Path.{◌≡◌}
use Prim.Native.Nat.{◌-◌, ◌≤◌}
use lib.ListN.{length, take}
use Rattle.look_up.specs.LookUp.{PointOf}
use Rattle.look_up.specs.Listed.{Paired}
use Rattle.look_up.proofs.points_of.Given as goal

abbrev pub invariant-loop-i : goal.invariant-loop-i
invariant-loop-i l = (l.i ≤ l.i-end) × (l.i-end ≡ length l.numbers) × (length l.points ≡ length l.initial.points) × (length l.numbers ≡ length l.initial.points) × Paired (PointOf l.checkpoints) (take l.i l.numbers) (take l.i l.points)

abbrev pub decreases-loop-i : goal.decreases-loop-i
decreases-loop-i l = l.i-end - l.i
