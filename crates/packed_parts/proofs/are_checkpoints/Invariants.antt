use Rattle.packed_parts.proofs.NumberLaws.{Marking}
use Rattle.packed_parts.proofs.are_checkpoints.Given as goal

abbrev pub invariant-loop : goal.invariant-loop
invariant-loop l = Marking l.bytes l.count l.from l.marks l.at l.counter
