-- `packed_check::are_tables` meets its contract. Assumes nothing.
use Rattle.packed_check.specs.Judgement.{tables_right}
use native.Mathlib.Omega.{arith}
use Rattle.std.proofs.lemmas.Bool.Decides.{nat_tests}
use Rattle.packed_check.proofs.are_tables.Goals as goal

pub returns-then-are_checkpoints : goal.returns-then-are_checkpoints
unfolding tables_right
returns-then-are_checkpoints c = grind (arith, nat_tests)

pub returns-else-are_checkpoints : goal.returns-else-are_checkpoints
unfolding tables_right
returns-else-are_checkpoints c = grind (arith, nat_tests)
