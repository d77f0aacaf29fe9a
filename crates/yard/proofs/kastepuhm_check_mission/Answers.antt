-- `yard::kastepuhm_check_mission` meets its contract: the reply of `check_mission`, and what is answered of it. Assumes nothing.
use Rattle.yard.proofs.kastepuhm_check_mission.Goals as goal

pub returns : goal.returns
returns c =
    record { reply = c.check_mission-reply.result; promised = rw c.edition_of-by.ensures at c.check_mission-reply.ensures; told = c.pair_answer.ensures }
