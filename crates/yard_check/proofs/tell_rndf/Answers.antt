-- `yard_check::tell_rndf` meets its contract: what the reader replies, and what is put of it. Assumes nothing.
use Rattle.output.proofs.Writing.{◌then◌}
use Rattle.yard_check.proofs.tell_rndf.Goals as goal

pub returns : goal.returns
returns c =
    record { reply = c.read_rndf-reply.result; read = c.read_rndf-reply.ensures; told = c.put_rndf_answer-n.ensures then c.put_rndf_may_stand.ensures }
