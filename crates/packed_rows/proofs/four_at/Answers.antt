-- `packed_rows::four_at` meets its contract. Assumes nothing.
use native.Mathlib.Omega.{arith}
use Rattle.std.proofs.lemmas.Grind.{common_steps}
use Rattle.std.proofs.lemmas.Bool.Decides.{nat_tests}
use Rattle.packed_rows.specs.Points.{four_at_of}
use Rattle.packed_rows.proofs.PointLaws.{four-none}
use Rattle.packed_rows.proofs.four_at.Goals as goal

pub returns-then-bytes-lt4 : goal.returns-then-bytes-lt4
returns-then-bytes-lt4 c = grind (arith, common_steps, four-none)

pub returns : goal.returns
unfolding four_at_of
returns c = grind (arith, common_steps, nat_tests)
