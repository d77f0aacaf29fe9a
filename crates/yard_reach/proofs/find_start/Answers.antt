-- `yard_reach::find_start` meets its contract: what the reader replies, and where the start is then. Assumes nothing.
use Rattle.yard_reach.proofs.find_start.Goals as goal

pub returns : goal.returns
returns c = record { reply = c.read_pair-reply.result; read = c.read_pair-reply.ensures; found = c.start_of.ensures }
