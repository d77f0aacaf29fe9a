-- `yard::kastepuhm_mend` meets its contract: the mending tool's reply, and what is answered of it. Assumes nothing.
use Rattle.yard.proofs.kastepuhm_mend.Goals as goal

pub returns : goal.returns
returns c =
    record { reply = c.mend-reply.result; promised = rw c.edition_of-by.ensures at c.mend-reply.ensures; told = c.mend_answer.ensures }
