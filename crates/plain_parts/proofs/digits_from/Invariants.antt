use Prim.Native.Nat.{◌<◌}
use Rattle.number.specs.Spelling.{SpellsInteger}
use Rattle.plain_parts.specs.Stands.{Stands}
use Rattle.plain_parts.proofs.digits_from.Given as goal

abbrev pub invariant-loop-i : goal.invariant-loop-i
invariant-loop-i l = Stands l.s l.from l.i (λ w. SpellsInteger w l.v) × (0 < l.v)
