-- `packed_rows::is_width` meets its contract. Assumes nothing.
use native.Mathlib.Omega.{arith}
use Rattle.std.proofs.lemmas.Bool.Decides.{nat_tests}
use Rattle.packed_rows.specs.Lanes.{width_right}
use Rattle.packed_rows.proofs.is_width.Goals as goal

pub returns-then-w : goal.returns-then-w
unfolding width_right
returns-then-w c = grind (arith, nat_tests)

pub returns-else-w : goal.returns-else-w
unfolding width_right
returns-else-w c = grind (arith, nat_tests)
