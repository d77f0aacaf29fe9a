use Rattle.yard.proofs.kastepuhm_read_pair.Goals as goal

pub returns : goal.returns
returns c =
    record { reply = c.read_pair-reply.result; promised = rw c.edition_of-by.ensures at c.read_pair-reply.ensures; told = c.pair_answer.ensures }
