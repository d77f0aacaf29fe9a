-- `yard_unpack::tell_packed` meets its contract: what the unpacker replies, and what is put of it. Assumes nothing.
use Rattle.yard_unpack.proofs.tell_packed.Goals as goal

pub returns : goal.returns
returns c = record { reply = c.read_packed-reply.result; read = c.read_packed-reply.ensures; told = c.put_rndf_answer.ensures }
