-- `plain_order::plain_order` meets its contract. Assumes nothing.
use Rattle.plain_order.proofs.Orders.{order-behind, order-line}
use Rattle.plain_order.proofs.plain_order.Goals as goal

pub overflow_sub-stop : goal.overflow_sub-stop
overflow_sub-stop c =
    let a = c.args in
    let order = c.in_ok-o in
    order-behind a.text.now a.from c.not_separator_from-at.result a.kind c.not_separator_from-at.ensures order.o order.stop order.ensures

pub returns-then-stop-from-le512 : goal.returns-then-stop-from-le512
returns-then-stop-from-le512 c =
    let a = c.args in
    let order = c.in_ok-o in
    order-line a.text.now a.from c.not_separator_from-at.result a.kind c.not_separator_from-at.ensures order.o order.stop order.ensures c.if-stop-from-le512.true
