-- `packed_frame::segments_at` meets its contract. Assumes nothing.
use native.Mathlib.Omega.{arith}
use Rattle.std.proofs.lemmas.Bool.Decides.{nat_tests}
use Rattle.packed_frame.proofs.WalkLaws.{walk-stopped, walk-again, walk-ended}
use Rattle.packed_frame.proofs.RowLaws.{segment-inside}
use Rattle.packed_frame.proofs.segments_at.Goals as goal

pub returns-in_err-end : goal.returns-in_err-end
returns-in_err-end c = grind (arith, nat_tests, walk-stopped)

pub overflow_add-at : goal.overflow_add-at
overflow_add-at c = grind (arith, nat_tests, segment-inside)

pub loop-preserved : goal.loop-preserved
loop-preserved c = grind (arith, nat_tests, walk-again)

pub returns : goal.returns
returns c = grind (arith, walk-ended)
