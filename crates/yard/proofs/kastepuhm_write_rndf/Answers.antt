use Rattle.yard.proofs.kastepuhm_write_rndf.Goals as goal

pub returns : goal.returns
returns c =
    record { reply = c.write_rndf-reply.result; promised = rw c.edition_of-by.ensures at c.write_rndf-reply.ensures; told = c.write_answer.ensures }
