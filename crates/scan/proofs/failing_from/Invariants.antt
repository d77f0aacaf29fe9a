use mathlib.Core.Path.{◌≡◌}
use mathlib.Core.Bool.{Bool}
use Prim.Native.Nat.{ℕ}
use Rattle.scan.specs.Reach.{reach, fails}
use Rattle.scan.specs.Passing.{Answers}
use Rattle.scan.proofs.failing_from.Given as goal

abbrev pub invariant-loop-i : goal.invariant-loop-i
invariant-loop-i g l = (t : ℕ → Bool) → Answers (goal.F-post g l.test) t → reach (fails t) l.s l.i ≡ reach (fails t) l.s l.from
