use mathlib.Core.Path.{◌≡◌}
use Prim.Native.Nat.{◌+◌, ◌-◌, ◌≤◌}
use lib.ListN.{length}
use lib.Seq.{paste}
use Rattle.rows.proofs.store.Given as goal

abbrev pub invariant-loop-j : goal.invariant-loop-j
invariant-loop-j g l = (l.j ≤ l.j-end) × (l.t ≡ paste l.initial.t l.at l.words l.j) × (length l.t ≡ length l.initial.t) × (l.at + g.row.STRIDE ≤ length l.initial.t)

abbrev pub decreases-loop-j : goal.decreases-loop-j
decreases-loop-j g l = l.j-end - l.j
