-- `packed_parts::behind` meets its contract. The invariant: the row behind those from here on is the one that is asked for. Assumes nothing.
use native.Mathlib.Omega.{arith}
use Rattle.packed_parts.proofs.PartLaws.{again-row, stopped-row, ended-rows}
use Rattle.packed_parts.proofs.behind.Goals as goal

pub returns-then-not-is_own : goal.returns-then-not-is_own
returns-then-not-is_own c = grind (arith, stopped-row)

pub loop-at-preserved : goal.loop-at-preserved
loop-at-preserved c = grind (arith, again-row)

pub returns : goal.returns
returns c = grind (arith, ended-rows)
