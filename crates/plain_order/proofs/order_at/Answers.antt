-- `plain_order::order_at` meets its contract. Assumes nothing.
use Rattle.plain_order.proofs.order_at.Goals as goal

pub returns-in-11 : goal.returns-in-11
returns-in-11 c = rw c.in-11.is c.goal_at.ensures

pub returns-in-12 : goal.returns-in-12
returns-in-12 c = rw c.in-12.is c.limit_at.ensures
