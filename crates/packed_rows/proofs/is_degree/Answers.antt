-- `packed_rows::is_degree` meets its contract. Assumes nothing.
use native.Mathlib.Omega.{arith}
use Rattle.std.proofs.lemmas.Bool.Decides.{nat_tests}
use Rattle.packed_rows.specs.Points.{degree}
use Rattle.packed_rows.proofs.is_degree.Goals as goal

pub returns-then-word-most : goal.returns-then-word-most
unfolding degree
returns-then-word-most c = grind (arith, nat_tests)

pub returns-else-word-most : goal.returns-else-word-most
unfolding degree
returns-else-word-most c = grind (arith, nat_tests)
