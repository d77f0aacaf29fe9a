-- `packed_frame::stretch_of` meets its contract. Assumes nothing.
use Rattle.packed_frame.specs.File.{the_the_stretch_of}
use native.Mathlib.Omega.{arith}
use Rattle.std.proofs.lemmas.Bool.Decides.{nat_tests}
use Rattle.packed_frame.proofs.stretch_of.Goals as goal

pub returns-then-size-eq0 : goal.returns-then-size-eq0
unfolding the_the_stretch_of
returns-then-size-eq0 c = grind (arith, nat_tests)

pub returns-else-size-eq0 : goal.returns-else-size-eq0
unfolding the_the_stretch_of
returns-else-size-eq0 c = grind (arith, nat_tests)
