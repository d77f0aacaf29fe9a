-- `packed_rows::are_points` meets its contract. Assumes nothing.
use native.Mathlib.Omega.{arith}
use Rattle.packed_rows.proofs.PointLaws.{point-inside, again-point, stopped-point, ended-points}
use Rattle.packed_rows.proofs.are_points.Goals as goal

pub returns-then-not-is_point : goal.returns-then-not-is_point
returns-then-not-is_point c = grind (arith, stopped-point)

pub overflow_add-at : goal.overflow_add-at
overflow_add-at c = grind (arith, point-inside)

pub loop-preserved : goal.loop-preserved
loop-preserved c = grind (arith, again-point)

pub returns : goal.returns
returns c = grind (arith, ended-points)
