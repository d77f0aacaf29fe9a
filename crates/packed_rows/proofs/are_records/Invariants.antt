use mathlib.Core.Path.{◌≡◌}
use lib.ListN.{length, drop}
use Rattle.packed_rows.specs.Walk.{walked}
use Rattle.packed_rows.proofs.are_records.Given as goal

abbrev pub invariant-loop-left : goal.invariant-loop-left
invariant-loop-left l = walked l.left ≡ walked (drop l.fn.from l.fn.bytes)

abbrev pub decreases-loop-left : goal.decreases-loop-left
decreases-loop-left l = length l.left
