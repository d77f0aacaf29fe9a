-- `packed_parts::taken` meets its contract. The invariant: the lanes that are left say the whole. Assumes nothing.
use native.Mathlib.Omega.{arith}
use Rattle.packed_parts.proofs.PartLaws.{again-lane, ended-lanes}
use Rattle.packed_parts.proofs.taken.Goals as goal

pub loop-lane-preserved : goal.loop-lane-preserved
loop-lane-preserved c = grind (arith, again-lane)

pub returns : goal.returns
returns c = grind (arith, ended-lanes)
