-- `packed_parts::is_own` meets its contract. Assumes nothing.
use native.Mathlib.Omega.{arith}
use Rattle.packed_parts.proofs.PartLaws.{point-before, point-behind}
use Rattle.packed_parts.proofs.is_own.Goals as goal

pub returns-then-first-point : goal.returns-then-first-point
returns-then-first-point c = point-behind c.args.first c.args.size c.args.point (omega arith)

pub returns-else-first-point : goal.returns-else-first-point
returns-else-first-point c = point-before c.args.first c.args.size c.args.point (omega arith)
