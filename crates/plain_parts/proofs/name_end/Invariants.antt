use Prim.Native.Nat.{◌≤◌, max}
use lib.ListN.{length}
use Rattle.plain_parts.specs.Stands.{NameEnds}
use Rattle.plain_parts.proofs.name_end.Given as goal

abbrev pub invariant-loop-i : goal.invariant-loop-i
invariant-loop-i l = NameEnds l.s l.from l.i × (l.i ≤ max l.from (length l.s))
