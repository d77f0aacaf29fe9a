-- `packed_rows::is_point` meets its contract. Assumes nothing.
use native.Mathlib.Omega.{arith}
use Rattle.packed_rows.specs.Points.{point_right}
use Rattle.packed_rows.proofs.FixedLaws.{here-inside}
use Rattle.packed_rows.proofs.is_point.Goals as goal

pub overflow_add-at : goal.overflow_add-at
overflow_add-at c = grind (arith, here-inside)

pub overflow_add-at-then-is_degree : goal.overflow_add-at-then-is_degree
overflow_add-at-then-is_degree c = grind (arith, here-inside)

pub returns-then-is_degree : goal.returns-then-is_degree
unfolding point_right
returns-then-is_degree c = grind (arith)

pub returns-else-is_degree : goal.returns-else-is_degree
unfolding point_right
returns-else-is_degree c = grind (arith)
