-- `yard_check::tell_pair` meets its contract: what the reader replies, and what is put of it. Assumes nothing.
use Rattle.output.proofs.Writing.{◌then◌}
use Rattle.yard_check.proofs.tell_pair.Goals as goal

pub returns : goal.returns
returns c =
    record { reply = c.read_pair-reply.result; read = c.read_pair-reply.ensures; told = c.put_pair_answer-n.ensures then c.put_pair_may_stand.ensures }
