-- `packed_rows::is_record` meets its contract. Assumes nothing.
use native.Mathlib.Omega.{arith}
use Rattle.std.proofs.lemmas.Grind.{common_steps}
use Rattle.std.proofs.lemmas.Bool.Decides.{nat_tests}
use Rattle.packed_rows.specs.Fixed.{record_here}
use Rattle.packed_rows.proofs.FixedLaws.{here-short}
use Rattle.packed_rows.proofs.is_record.Goals as goal

pub returns-then-bytes-lt2 : goal.returns-then-bytes-lt2
returns-then-bytes-lt2 c = grind (arith, common_steps, here-short)

pub returns-then-size-bytes : goal.returns-then-size-bytes
unfolding record_here
returns-then-size-bytes c = grind (arith, common_steps, nat_tests)

pub returns-else-size-bytes : goal.returns-else-size-bytes
unfolding record_here
returns-else-size-bytes c = grind (arith, common_steps, nat_tests)
