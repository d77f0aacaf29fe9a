use mathlib.Core.Path.{◌≡◌}
use Prim.Native.Nat.{◌+◌, ◌^◌, ◌<◌}
use Rattle.number.specs.Decimal.{padded}
use Rattle.plain_parts.specs.Stands.{stretch}
use Rattle.plain_parts.proofs.six_at.Given as goal

abbrev pub invariant-loop-k : goal.invariant-loop-k
invariant-loop-k l = (l.v < 10 ^ l.k) × (stretch l.s l.from (l.from + l.k) ≡ padded l.k l.v)
