-- `packed_frame::are_spots_of` meets its contract. Assumes nothing.
use native.Mathlib.Omega.{arith}
use Rattle.std.proofs.lemmas.Bool.Decides.{nat_tests}
use Rattle.packed_frame.proofs.NameLaws.{named-inside}
use Rattle.packed_frame.specs.Spots.{zone_spots}
use Rattle.packed_frame.proofs.are_spots_of.Goals as goal

pub overflow_add-zone : goal.overflow_add-zone
overflow_add-zone c = grind (arith, nat_tests, named-inside)

pub overflow_add-zone-then-is_some : goal.overflow_add-zone-then-is_some
overflow_add-zone-then-is_some c = grind (arith, nat_tests, named-inside)

pub overflow_add-zone-then-is_some-2 : goal.overflow_add-zone-then-is_some-2
overflow_add-zone-then-is_some-2 c = grind (arith, nat_tests, named-inside)

pub returns-then-is_some : goal.returns-then-is_some
unfolding zone_spots
returns-then-is_some c = grind (arith, nat_tests)

pub returns-else-is_some : goal.returns-else-is_some
unfolding zone_spots
returns-else-is_some c = grind (arith, nat_tests)
