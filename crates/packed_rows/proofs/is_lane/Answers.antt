-- `packed_rows::is_lane` meets its contract. Assumes nothing.
use native.Mathlib.Omega.{arith}
use Rattle.packed_rows.specs.Lanes.{the_lane_at_of}
use Rattle.packed_rows.proofs.FixedLaws.{here-inside}
use Rattle.packed_rows.proofs.is_lane.Goals as goal

pub overflow_add-at : goal.overflow_add-at
overflow_add-at c = grind (arith, here-inside)

pub overflow_add-at-then-is_record : goal.overflow_add-at-then-is_record
overflow_add-at-then-is_record c = grind (arith, here-inside)

pub overflow_add-at-then-is_record-2 : goal.overflow_add-at-then-is_record-2
overflow_add-at-then-is_record-2 c = grind (arith, here-inside)

pub returns-then-is_record : goal.returns-then-is_record
unfolding the_lane_at_of
returns-then-is_record c = grind (arith)

pub returns-else-is_record : goal.returns-else-is_record
unfolding the_lane_at_of
returns-else-is_record c = grind (arith)
