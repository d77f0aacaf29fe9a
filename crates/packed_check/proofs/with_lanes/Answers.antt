-- `packed_check::with_lanes` meets its contract. Assumes nothing.
use Rattle.packed_check.specs.Judgement.{with_lanes_of}
use native.Mathlib.Omega.{arith}
use Rattle.std.proofs.lemmas.Bool.Decides.{nat_tests}
use Rattle.packed_check.proofs.with_lanes.Goals as goal

pub returns-then-not-are_lanes : goal.returns-then-not-are_lanes
unfolding with_lanes_of
returns-then-not-are_lanes c = grind (arith, nat_tests)

pub returns-in_err-spots : goal.returns-in_err-spots
unfolding with_lanes_of
returns-in_err-spots c = grind (arith, nat_tests)

pub returns-then-points-c : goal.returns-then-points-c
unfolding with_lanes_of
returns-then-points-c c = grind (arith, nat_tests)

pub returns : goal.returns
unfolding with_lanes_of
returns c = grind (arith, nat_tests)
