-- `packed_frame::are_spots_behind` meets its contract. Assumes nothing.
use native.Mathlib.Omega.{arith}
use Rattle.packed_frame.proofs.RowLaws.{spot-inside}
use Rattle.packed_frame.proofs.WalkLaws.{every-again, every-stopped, every-ended}
use Rattle.packed_frame.proofs.are_spots_behind.Goals as goal

pub returns-then-not-is_spot : goal.returns-then-not-is_spot
returns-then-not-is_spot c = grind (arith, every-stopped)

pub overflow_add-at : goal.overflow_add-at
overflow_add-at c = grind (arith, spot-inside)

pub loop-preserved : goal.loop-preserved
loop-preserved c = grind (arith, every-again)

pub returns : goal.returns
returns c = grind (arith, every-ended)
