use Rattle.yard.proofs.kastepuhm_read_rndf.Goals as goal

pub returns : goal.returns
returns c =
    record { reply = c.read_rndf-reply.result; promised = rw c.edition_of-by.ensures at c.read_rndf-reply.ensures; told = c.rndf_answer.ensures }
