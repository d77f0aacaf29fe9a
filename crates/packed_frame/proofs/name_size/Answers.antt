-- `packed_frame::name_size` meets its contract. Assumes nothing.
use native.Mathlib.Omega.{arith}
use Rattle.std.proofs.lemmas.Grind.{common_steps}
use Rattle.std.proofs.lemmas.Bool.Decides.{nat_tests}
use Rattle.packed_frame.proofs.NameLaws.{name-cut}
use Rattle.packed_frame.specs.Names.{name_size_of, two_at}
use Rattle.packed_frame.proofs.name_size.Goals as goal

pub returns-in_err-get : goal.returns-in_err-get
returns-in_err-get c = grind (arith, common_steps, nat_tests, name-cut)

pub returns-in_default : goal.returns-in_default
returns-in_default c = grind (arith, common_steps, nat_tests, name-cut)

pub returns-in_err-name : goal.returns-in_err-name
unfolding name_size_of two_at
returns-in_err-name c = grind (arith, common_steps, nat_tests)

pub returns : goal.returns
unfolding name_size_of two_at
returns c = grind (arith, common_steps, nat_tests)
