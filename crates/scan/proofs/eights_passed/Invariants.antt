use mathlib.Core.Path.{◌≡◌}
use mathlib.Core.Bool.{Bool}
use Prim.Native.Nat.{ℕ, ◌+◌, ◌-◌}
use lib.ListN.{length}
use Rattle.scan.specs.Passing.{Answers, GoesOver}
use Rattle.scan.proofs.eights_passed.Given as goal

abbrev pub invariant-loop-i : goal.invariant-loop-i
invariant-loop-i g l = (l.last + 8 ≡ length l.s) × ((t : ℕ → Bool) → Answers (goal.F-post g l.test) t → GoesOver t l.s l.from l.i)

abbrev pub decreases-loop-i : goal.decreases-loop-i
decreases-loop-i g l = length l.s - l.i
