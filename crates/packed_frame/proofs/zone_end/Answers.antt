-- `packed_frame::zone_end` meets its contract. Assumes nothing.
use Rattle.packed_frame.specs.Zones.{zone_end_of}
use native.Mathlib.Omega.{arith}
use Rattle.std.proofs.lemmas.Bool.Decides.{nat_tests}
use Rattle.packed_frame.proofs.NameLaws.{named-inside}
use Rattle.packed_frame.proofs.zone_end.Goals as goal

pub returns-in_err-end : goal.returns-in_err-end
unfolding zone_end_of
returns-in_err-end c = grind (arith, nat_tests)

pub overflow_add-at : goal.overflow_add-at
overflow_add-at c = grind (arith, nat_tests, named-inside)

pub overflow_add-at-2 : goal.overflow_add-at-2
overflow_add-at-2 c = grind (arith, nat_tests, named-inside)

pub overflow_add-at-then-run_fits : goal.overflow_add-at-then-run_fits
overflow_add-at-then-run_fits c = grind (arith, nat_tests, named-inside)

pub overflow_add-at-then-run_fits-2 : goal.overflow_add-at-then-run_fits-2
overflow_add-at-then-run_fits-2 c = grind (arith, nat_tests, named-inside)

pub returns : goal.returns
unfolding zone_end_of
returns c = grind (arith, nat_tests)
