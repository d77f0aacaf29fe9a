-- `yard::kastepuhm_read_packed` meets its contract: the unpacker's reply, and what is answered of it. Assumes nothing.
use Rattle.yard.proofs.kastepuhm_read_packed.Goals as goal

pub returns : goal.returns
returns c =
    record { reply = c.read_packed-reply.result; promised = c.read_packed-reply.ensures; told = c.rndf_answer.ensures }
