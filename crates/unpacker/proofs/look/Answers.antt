-- `unpacker::look` meets its contract. Assumes nothing.
use native.Mathlib.Omega.{arith}
use Rattle.std.proofs.lemmas.Bool.Decides.{nat_tests}
use Rattle.unpacker.specs.Telling.{looked}
use Rattle.unpacker.proofs.look.Goals as goal

pub returns-then-bytes-gt-LONGEST_TEXT : goal.returns-then-bytes-gt-LONGEST_TEXT
unfolding looked
returns-then-bytes-gt-LONGEST_TEXT c = grind (arith, nat_tests)

pub returns-then-not-is_version : goal.returns-then-not-is_version
unfolding looked
returns-then-not-is_version c = grind (arith, nat_tests)

pub returns-then-not-is_framed : goal.returns-then-not-is_framed
unfolding looked
returns-then-not-is_framed c = grind (arith, nat_tests)

pub returns : goal.returns
unfolding looked
returns c = grind (arith, nat_tests)
