-- `packed_parts::are_exits` meets its contract. Assumes nothing.
use native.Mathlib.Omega.{arith}
use Rattle.packed_parts.proofs.EntryLaws.{exit-inside, again-exit, stopped-exit, ended-exits}
use Rattle.packed_parts.proofs.are_exits.Goals as goal

pub returns-then-not-is_exit : goal.returns-then-not-is_exit
returns-then-not-is_exit c = grind (arith, stopped-exit)

pub overflow_add-at : goal.overflow_add-at
overflow_add-at c = grind (arith, exit-inside)

pub loop-preserved : goal.loop-preserved
loop-preserved c = grind (arith, again-exit)

pub returns : goal.returns
returns c = grind (arith, ended-exits)
