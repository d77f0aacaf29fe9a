use mathlib.Core.Path.{◌≡◌}
use Prim.Native.Nat.{◌+◌, ◌≤◌}
use Rattle.moves.specs.Halving.{halved, first_word, rows_there_of, first_row_from_of}
use Rattle.moves.proofs.first_row_from.Given as goal

abbrev pub invariant-loop-left : goal.invariant-loop-left
invariant-loop-left l = (l.low + l.left ≤ rows_there_of l.table l.stride l.count) × (halved (first_word l.table l.stride) l.least l.left l.low l.left ≡ first_row_from_of l.table l.stride l.count l.least)

abbrev pub decreases-loop-left : goal.decreases-loop-left
decreases-loop-left l = l.left
