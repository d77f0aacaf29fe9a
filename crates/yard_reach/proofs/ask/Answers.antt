-- `yard_reach::ask` meets its contract: what is replied, and what is put of it. Assumes nothing.
use Rattle.yard_reach.proofs.ask.Goals as goal

pub returns : goal.returns
returns c = record { reply = c.check_mission-reply.result; checked = c.check_mission-reply.ensures; told = c.put_mission_answer.ensures }
