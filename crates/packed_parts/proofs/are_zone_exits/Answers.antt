-- `packed_parts::are_zone_exits` meets its contract. The invariant: the zones that are left say the whole; no place is too large. Assumes nothing.
use native.Mathlib.Omega.{arith}
use Rattle.packed_parts.proofs.PartLaws.{again-exits, stopped-exits, ended-exits}
use Rattle.packed_parts.proofs.are_zone_exits.Goals as goal

pub returns-then-not-lead_to_lanes : goal.returns-then-not-lead_to_lanes
returns-then-not-lead_to_lanes c = grind (arith, stopped-exits)

pub loop-preserved : goal.loop-preserved
loop-preserved c = grind (arith, again-exits)

pub returns : goal.returns
returns c = grind (arith, ended-exits)
