use mathlib.Core.Path.{◌≡◌}
use Prim.Native.Nat.{◌-◌}
use lib.ListN.{drop}
use Rattle.packed_rows.specs.Fixed.{records_here}
use Rattle.packed_rows.proofs.are_records_of.Given as goal

abbrev pub invariant-loop : goal.invariant-loop
invariant-loop l = records_here (l.count - l.counter) l.size (drop l.at l.bytes) ≡ records_here l.count l.size (drop l.from l.bytes)
