use mathlib.Core.Path.{◌≡◌}
use mathlib.Core.Bool.{Bool}
use Prim.Native.Nat.{ℕ}
use lib.ListN.{take}
use Rattle.scan.specs.Allowed.{all}
use Rattle.scan.specs.Passing.{Answers}
use Rattle.scan.proofs.all_pass.Given as goal

abbrev pub invariant-loop-b : goal.invariant-loop-b
invariant-loop-b g l = (t : ℕ → Bool) → Answers (goal.F-post g l.test) t → l.pass ≡ all t (take l.b-index l.bytes)
