use mathlib.Core.Path.{◌≡◌}
use Prim.Native.Nat.{◌≤◌, max}
use lib.ListN.{length}
use Rattle.scan.specs.Reach.{reach, fails}
use Rattle.number.specs.House.{number_byte}
use Rattle.references.proofs.number_end.Given as goal

abbrev pub invariant-loop-i : goal.invariant-loop-i
invariant-loop-i l = (reach (fails number_byte) l.s l.i ≡ reach (fails number_byte) l.s l.from) × (l.i ≤ max l.from (length l.s))
