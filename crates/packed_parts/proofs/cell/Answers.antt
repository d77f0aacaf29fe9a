-- `packed_parts::cell` meets its contract. Assumes nothing.
use native.Mathlib.Omega.{arith}
use Rattle.packed_parts.proofs.PartLaws.{product-fits}
use Rattle.packed_parts.proofs.cell.Goals as goal

pub overflow_mul-step : goal.overflow_mul-step
overflow_mul-step c = let p = product-fits c.args.step c.args.row (omega arith) (omega arith) in omega arith

pub overflow_add-from : goal.overflow_add-from
overflow_add-from c = let p = product-fits c.args.step c.args.row (omega arith) (omega arith) in omega arith

pub overflow_add-from-2 : goal.overflow_add-from-2
overflow_add-from-2 c = let p = product-fits c.args.step c.args.row (omega arith) (omega arith) in omega arith
