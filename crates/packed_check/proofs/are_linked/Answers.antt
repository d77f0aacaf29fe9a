-- `packed_check::are_linked` meets its contract. Assumes nothing.
use Rattle.packed_check.specs.Judgement.{linked}
use native.Mathlib.Omega.{arith}
use Rattle.std.proofs.lemmas.Bool.Decides.{nat_tests}
use Rattle.packed_check.proofs.are_linked.Goals as goal

pub returns-then-are_exits : goal.returns-then-are_exits
unfolding linked
returns-then-are_exits c = grind (arith, nat_tests)

pub returns-else-are_exits : goal.returns-else-are_exits
unfolding linked
returns-else-are_exits c = grind (arith, nat_tests)
