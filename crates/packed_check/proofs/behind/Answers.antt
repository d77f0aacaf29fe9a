-- `packed_check::behind` meets its contract. Assumes nothing.
use Rattle.packed_parts.proofs.PartLaws.{product-fits}
use native.Mathlib.Omega.{arith}
use Rattle.packed_check.proofs.behind.Goals as goal

pub overflow_mul-result : goal.overflow_mul-result
overflow_mul-result c = let p = product-fits c.args.size c.args.count (omega arith) (omega arith) in omega arith

pub overflow_add-result : goal.overflow_add-result
overflow_add-result c = let p = product-fits c.args.size c.args.count (omega arith) (omega arith) in omega arith
