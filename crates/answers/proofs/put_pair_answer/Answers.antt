-- `answers::put_pair_answer` meets its contract: by the reply. Assumes nothing.
use Rattle.answers.specs.Answers.{pair_answer_of}
use Rattle.answers.proofs.put_pair_answer.Goals as goal

pub enum_known-reply : goal.enum_known-reply
enum_known-reply c = c.in-Ok.in-Ok-own.keys1

pub enum_known-reply-in-Err-1 : goal.enum_known-reply-in-Err-1
enum_known-reply-in-Err-1 c = c.in-Err.in-Err-own.keys2

pub returns-in-Ok : goal.returns-in-Ok
unfolding pair_answer_of
returns-in-Ok c = rw c.in-Ok.is c.put_pair_accepted.ensures

pub returns-in-Err : goal.returns-in-Err
unfolding pair_answer_of
returns-in-Err c = rw c.in-Err.is c.put_refused.ensures
