-- `packed_frame::is_spot` meets its contract. Assumes nothing.
use native.Mathlib.Omega.{arith}
use Rattle.packed_rows.proofs.FixedLaws.{here-inside}
use Rattle.packed_frame.specs.Spots.{spot-at}
use Rattle.packed_frame.proofs.is_spot.Goals as goal

pub overflow_add-at : goal.overflow_add-at
overflow_add-at c = grind (arith, here-inside)

pub overflow_add-at-then-is_record : goal.overflow_add-at-then-is_record
overflow_add-at-then-is_record c = grind (arith, here-inside)

pub returns-then-is_record : goal.returns-then-is_record
unfolding spot-at
returns-then-is_record c = grind (arith)

pub returns-else-is_record : goal.returns-else-is_record
unfolding spot-at
returns-else-is_record c = grind (arith)
