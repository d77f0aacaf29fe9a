-- `packed_frame::segment_end` meets its contract. Assumes nothing.
use Rattle.packed_frame.specs.Segments.{segment_end_of}
use native.Mathlib.Omega.{arith}
use Rattle.std.proofs.lemmas.Bool.Decides.{nat_tests}
use Rattle.packed_frame.proofs.NameLaws.{named-inside}
use Rattle.packed_frame.proofs.segment_end.Goals as goal

pub returns-in_err-end : goal.returns-in_err-end
unfolding segment_end_of
returns-in_err-end c = grind (arith, nat_tests)

pub overflow_add-at : goal.overflow_add-at
overflow_add-at c = grind (arith, nat_tests, named-inside)

pub overflow_add-at-2 : goal.overflow_add-at-2
overflow_add-at-2 c = grind (arith, nat_tests, named-inside)

pub returns : goal.returns
unfolding segment_end_of
returns c = grind (arith, nat_tests)
