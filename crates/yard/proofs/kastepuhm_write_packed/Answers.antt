-- `yard::kastepuhm_write_packed` meets its contract: the packer's reply, and what is answered of it. Assumes nothing.
use Rattle.yard.proofs.kastepuhm_write_packed.Goals as goal

pub returns : goal.returns
returns c =
    record { reply = c.write_packed-reply.result; promised = rw c.edition_of-by.ensures at c.write_packed-reply.ensures; told = c.write_answer.ensures }
