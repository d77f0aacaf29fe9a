-- `yard::kastepuhm_write_mdf` meets its contract: the writer's reply, and what is answered of it. Assumes nothing.
use Rattle.yard.proofs.kastepuhm_write_mdf.Goals as goal

pub returns : goal.returns
returns c =
    record { reply = c.write_mdf-reply.result; promised = rw c.edition_of-by.ensures at c.write_mdf-reply.ensures; told = c.write_mdf_answer.ensures }
