-- `plain_parts::with_sign` meets its contract. Assumes nothing.
use mathlib.Core.Bool.{true, false}
use native.Mathlib.Omega.{arith}
use Rattle.plain_parts.proofs.Signs.{to-small, neg-fits, neg-back}
use Rattle.plain_parts.proofs.with_sign.Goals as goal

pub overflow_sub-result : goal.overflow_sub-result
overflow_sub-result c = neg-fits c.args.m (omega arith)

pub returns-then-minus : goal.returns-then-minus
returns-then-minus c = rw (c.if-minus.true, neg-back c.args.m (omega arith))

pub returns-else-minus : goal.returns-else-minus
returns-else-minus c = rw (c.if-minus.false, to-small c.args.m (omega arith))
