-- `packed_check::judged` meets its contract. Assumes nothing.
use Rattle.packed_check.specs.Judgement.{judgement}
use native.Mathlib.Omega.{arith}
use Rattle.std.proofs.lemmas.Bool.Decides.{nat_tests}
use Rattle.packed_check.proofs.judged.Goals as goal

pub returns-in_err-c : goal.returns-in_err-c
unfolding judgement
returns-in_err-c c = grind (arith, nat_tests)

pub returns-then-not-are_few : goal.returns-then-not-are_few
unfolding judgement
returns-then-not-are_few c = grind (arith, nat_tests)

pub returns-in_err-lanes : goal.returns-in_err-lanes
unfolding judgement
returns-in_err-lanes c = grind (arith, nat_tests)

pub returns-then-count-c : goal.returns-then-count-c
unfolding judgement
returns-then-count-c c = grind (arith, nat_tests)

pub returns : goal.returns
unfolding judgement
returns c = grind (arith, nat_tests)
