-- `packed_frame::two_at` meets its contract. Assumes nothing.
use native.Mathlib.Omega.{arith}
use Rattle.std.proofs.lemmas.Grind.{common_steps}
use Rattle.packed_frame.proofs.NameLaws.{two_none}
use Rattle.packed_frame.specs.Names.{two_at}
use Rattle.std.proofs.lemmas.Bool.Decides.{nat_tests}
use Rattle.packed_frame.proofs.two_at.Goals as goal

pub returns-in_default : goal.returns-in_default
returns-in_default c = grind (arith, common_steps, two_none)

pub returns-in_default-2 : goal.returns-in_default-2
returns-in_default-2 c = grind (arith, common_steps, two_none)

pub returns : goal.returns
unfolding two_at
returns c = grind (arith, common_steps, nat_tests)
