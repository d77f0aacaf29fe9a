-- `packed_frame::named_end` meets its contract. Assumes nothing.
use Rattle.packed_frame.specs.Names.{named_end}
use native.Mathlib.Omega.{arith}
use Rattle.std.proofs.lemmas.Bool.Decides.{nat_tests}
use Rattle.packed_frame.proofs.NameLaws.{name-short}
use Rattle.packed_frame.proofs.named_end.Goals as goal

pub returns-then-bytes-long : goal.returns-then-bytes-long
unfolding named_end
returns-then-bytes-long c = grind (arith, nat_tests)

pub returns-in_err-name : goal.returns-in_err-name
unfolding named_end
returns-in_err-name c = grind (arith, nat_tests)

pub overflow_add-long-2 : goal.overflow_add-long-2
overflow_add-long-2 c = grind (arith, nat_tests, name-short)

pub overflow_add-at-4 : goal.overflow_add-at-4
overflow_add-at-4 c = grind (arith, nat_tests, name-short)

pub returns : goal.returns
unfolding named_end
returns c = grind (arith, nat_tests)
