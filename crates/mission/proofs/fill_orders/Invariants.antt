use mathlib.Core.Path.{◌≡◌}
use Prim.Native.Nat.{◌+◌, ◌-◌, ◌≤◌}
use lib.ListN.{length}
use Rattle.mission_progress.specs.Progress.{none_read_of, total}
use Rattle.walk.specs.Standing.{place}
use Rattle.walk.proofs.MdfSteps.{rest}
use Rattle.mission.specs.Storing.{memory}
use Rattle.mission.specs.Reading.{most, put, filled_in}
use Rattle.mission.proofs.fill_orders.Given as goal

abbrev pub invariant-loop-from : goal.invariant-loop-from
invariant-loop-from l =
    (l.from ≤ length l.text + 1)
    × (l.line ≤ l.from + 1)
    × (total l.gained ≤ l.line)
    × (rest put l.text l.place (memory l.gained l.goals l.limits) l.from l.line ≡ filled_in l.text (memory none_read_of l.initial.goals l.initial.limits))
    × (length l.goals ≡ length l.initial.goals)
    × (length l.limits ≡ length l.initial.limits)
    × (length l.text ≤ most)

abbrev pub decreases-loop-from : goal.decreases-loop-from
decreases-loop-from l = length l.text + 1 - l.from
