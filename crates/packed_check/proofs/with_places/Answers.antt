-- `packed_check::with_places` meets its contract. Assumes nothing.
use Rattle.packed_check.specs.Judgement.{with_places_of}
use native.Mathlib.Omega.{arith}
use Rattle.std.proofs.lemmas.Bool.Decides.{nat_tests}
use Rattle.packed_check.proofs.with_places.Goals as goal

pub returns : goal.returns
unfolding with_places_of
returns c = grind (arith, nat_tests)
