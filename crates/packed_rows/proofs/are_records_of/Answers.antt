-- `packed_rows::are_records_of` meets its contract. Assumes nothing.
use native.Mathlib.Omega.{arith}
use Rattle.packed_rows.proofs.FixedLaws.{here-inside, again, stopped, ended-all}
use Rattle.packed_rows.proofs.are_records_of.Goals as goal

pub returns-then-not-is_record : goal.returns-then-not-is_record
returns-then-not-is_record c = grind (arith, stopped)

pub overflow_add-at : goal.overflow_add-at
overflow_add-at c = grind (arith, here-inside)

pub overflow_add-at-in-loop : goal.overflow_add-at-in-loop
overflow_add-at-in-loop c = grind (arith, here-inside)

pub loop-preserved : goal.loop-preserved
loop-preserved c = grind (arith, again)

pub returns : goal.returns
returns c = grind (arith, ended-all)
