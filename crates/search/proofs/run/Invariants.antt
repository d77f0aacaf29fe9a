use mathlib.Core.Path.{◌≡◌}
use Prim.Native.Nat.{◌-◌}
use Rattle.search.specs.Search.{run}
use Rattle.search.proofs.run.Given as goal

abbrev pub invariant-loop-i : goal.invariant-loop-i
invariant-loop-i l = run l.work l.i (l.behind - l.i) ≡ run l.initial.work l.from (l.behind - l.from)
