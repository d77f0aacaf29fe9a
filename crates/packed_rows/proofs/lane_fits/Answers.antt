-- `packed_rows::lane_fits` meets its contract. Assumes nothing.
use native.Mathlib.Omega.{arith}
use Rattle.std.proofs.lemmas.Bool.Decides.{nat_tests}
use Rattle.packed_rows.specs.Lanes.{lane_right}
use Rattle.packed_rows.proofs.lane_fits.Goals as goal

pub returns-then-sides-le4 : goal.returns-then-sides-le4
unfolding lane_right
returns-then-sides-le4 c = grind (arith, nat_tests)

pub returns-else-sides-le4 : goal.returns-else-sides-le4
unfolding lane_right
returns-else-sides-le4 c = grind (arith, nat_tests)
