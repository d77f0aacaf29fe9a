-- `answers::put_mission_answer` meets its contract: by the reply. Assumes nothing.
use Rattle.answers.specs.Answers.{mission_answer}
use Rattle.answers.proofs.put_mission_answer.Goals as goal

pub enum_known-reply : goal.enum_known-reply
enum_known-reply c = c.in-Err.in-Err-own.keys2

pub returns-in-Ok : goal.returns-in-Ok
unfolding mission_answer
returns-in-Ok c = rw c.in-Ok.is c.put_driven.ensures

pub returns-in-Err : goal.returns-in-Err
unfolding mission_answer
returns-in-Err c = rw c.in-Err.is c.put_not_driven.ensures
