-- `plain_order::goal_at` meets its contract. Assumes nothing.
use Rattle.plain_order.proofs.Orders.{goal-stands}
use Rattle.plain_order.proofs.goal_at.Goals as goal

pub returns : goal.returns
returns c =
    let number = c.in_ok-n in
    let end = c.in_ok-stop in
    goal-stands c.args.text.now c.args.from number.a number.n end.stop number.ensures end.ensures
