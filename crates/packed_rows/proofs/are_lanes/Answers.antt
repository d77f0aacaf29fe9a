-- `packed_rows::are_lanes` meets its contract. Assumes nothing.
use native.Mathlib.Omega.{arith}
use Rattle.packed_rows.proofs.LaneLaws.{lane_inside, again-lane, stopped-lane, ended-lanes}
use Rattle.packed_rows.proofs.are_lanes.Goals as goal

pub returns-then-not-is_lane : goal.returns-then-not-is_lane
returns-then-not-is_lane c = grind (arith, stopped-lane)

pub overflow_add-at : goal.overflow_add-at
overflow_add-at c = grind (arith, lane_inside)

pub overflow_add-at-in-loop : goal.overflow_add-at-in-loop
overflow_add-at-in-loop c = grind (arith, lane_inside)

pub loop-preserved : goal.loop-preserved
loop-preserved c = grind (arith, again-lane)

pub returns : goal.returns
returns c = grind (arith, ended-lanes)
