-- `packed_parts::are_marked` meets its contract. The invariant: the spots that are left say the whole; no row is too large. Assumes nothing.
use native.Mathlib.Omega.{arith}
use Rattle.packed_parts.proofs.PartLaws.{again-marked, none_left, stopped-marked, ended-marked}
use Rattle.packed_parts.proofs.are_marked.Goals as goal

pub returns-then-checkpoints-at : goal.returns-then-checkpoints-at
returns-then-checkpoints-at c = grind (arith, none_left)

pub returns-then-cell-begin : goal.returns-then-cell-begin
returns-then-cell-begin c = grind (arith, stopped-marked)

pub loop-i-preserved : goal.loop-i-preserved
loop-i-preserved c = grind (arith, again-marked)

pub returns : goal.returns
returns c = grind (arith, ended-marked)
