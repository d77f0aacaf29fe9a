-- `packed_frame::are_spots` meets its contract. Assumes nothing.
use native.Mathlib.Omega.{arith}
use Rattle.packed_frame.proofs.WalkLaws.{every-stopped, every-again, every-ended}
use Rattle.packed_frame.proofs.RowLaws.{zone-spots-inside, spots-behind}
use Rattle.std.proofs.lemmas.Bool.Decides.{nat_tests}
use Rattle.packed_frame.proofs.are_spots.Goals as goal

pub returns-then-not-are_spots_of : goal.returns-then-not-are_spots_of
returns-then-not-are_spots_of c = grind (arith, every-stopped)

pub overflow_add-zone : goal.overflow_add-zone
overflow_add-zone c = grind (arith, zone-spots-inside)

pub overflow_add-at : goal.overflow_add-at
overflow_add-at c = grind (arith, spots-behind)

pub loop-preserved : goal.loop-preserved
loop-preserved c = grind (arith, nat_tests, every-again)

pub returns : goal.returns
returns c = grind (arith, every-ended)
