use mathlib.Core.Path.{◌≡◌}
use Prim.Native.Nat.{◌<◌, ◌^◌}
use lib.ListN.{drop}
use Rattle.number.specs.Executable.{worth, digits}
use Rattle.number.proofs.digits_worth.Given as goal

abbrev pub invariant-loop-b : goal.invariant-loop-b
invariant-loop-b l = (l.v < 10 ^ l.b-index) × (worth l.v (drop l.b-index l.s) ≡ worth 0 l.s) × (digits (drop l.b-index l.s) ≡ digits l.s)
