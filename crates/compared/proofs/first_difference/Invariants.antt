use mathlib.Core.Path.{◌≡◌}
use Prim.Native.Nat.{◌≤◌}
use lib.ListN.{drop}
use Rattle.compared.specs.Compared.{differ_from, first_difference_of}
use Rattle.compared.proofs.first_difference.Given as goal

abbrev pub invariant-loop-i : goal.invariant-loop-i
invariant-loop-i l = (l.passed ≤ l.i) × (differ_from l.i l.start l.passed (drop l.i l.a) (drop l.i l.b) ≡ first_difference_of l.a l.b)
