use Rattle.yard.proofs.kastepuhm_write_map.Goals as goal

pub returns : goal.returns
returns c =
    record { reply = c.write_map-reply.result; promised = rw c.edition_of-by.ensures at c.write_map-reply.ensures; told = c.write_answer.ensures }
