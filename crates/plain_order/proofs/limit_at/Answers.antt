-- `plain_order::limit_at` meets its contract. Assumes nothing.
use Rattle.plain_order.proofs.Orders.{limit-stands}
use Rattle.plain_order.proofs.limit_at.Goals as goal

pub returns : goal.returns
returns c =
    let id = c.in_ok-id in
    let second = c.in_ok-second in
    let minimum = c.in_ok-minimum in
    let third = c.in_ok-third in
    let maximum = c.in_ok-maximum in
    let end = c.in_ok-stop in
    limit-stands c.args.text.now c.args.from id.a second.second minimum.b third.third maximum.d id.id minimum.minimum maximum.maximum end.stop id.ensures second.ensures minimum.ensures third.ensures maximum.ensures end.ensures
