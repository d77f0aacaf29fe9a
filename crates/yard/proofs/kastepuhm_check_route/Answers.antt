-- `yard::kastepuhm_check_route` meets its contract: the reply of `check_route`, and what is answered of it. Assumes nothing.
use Rattle.yard.proofs.kastepuhm_check_route.Goals as goal

pub returns : goal.returns
returns c =
    record { reply = c.check_route-reply.result; promised = rw c.edition_of-by.ensures at c.check_route-reply.ensures; told = c.pair_answer.ensures }
