-- `packed_frame::file_at` meets its contract. Assumes nothing.
use Rattle.packed_frame.specs.File.{file_at_of, names_right, the_the_stretch_of}
use native.Mathlib.Omega.{arith}
use Rattle.std.proofs.lemmas.Bool.Decides.{nat_tests}
use Rattle.packed_frame.proofs.NameLaws.{name-short}
use Rattle.packed_frame.proofs.file_at.Goals as goal

pub returns-in_err-first : goal.returns-in_err-first
unfolding file_at_of names_right
returns-in_err-first c = grind (arith, nat_tests)

pub returns-then-first-eq0 : goal.returns-then-first-eq0
unfolding file_at_of names_right
returns-then-first-eq0 c = grind (arith, nat_tests)

pub overflow_add-second_at-2 : goal.overflow_add-second_at-2
overflow_add-second_at-2 c = grind (arith, nat_tests, name-short)

pub returns-in_err-second : goal.returns-in_err-second
unfolding file_at_of names_right
returns-in_err-second c = grind (arith, nat_tests)

pub overflow_add-end : goal.overflow_add-end
overflow_add-end c = grind (arith, nat_tests, name-short)

pub overflow_add-end-2 : goal.overflow_add-end-2
overflow_add-end-2 c = grind (arith, nat_tests, name-short)

pub returns-then-two_at-end : goal.returns-then-two_at-end
unfolding file_at_of names_right
returns-then-two_at-end c = grind (arith, nat_tests)

pub returns : goal.returns
unfolding file_at_of names_right the_the_stretch_of
returns c = grind (arith, nat_tests)
