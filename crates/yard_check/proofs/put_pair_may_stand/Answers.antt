-- `yard_check::put_pair_may_stand` meets its contract: by the reply. Assumes nothing.
use Rattle.output.proofs.Writing.{none}
use Rattle.yard_check.specs.Tells.{pair_may_stand}
use Rattle.yard_check.proofs.put_pair_may_stand.Goals as goal

pub returns-in-Ok : goal.returns-in-Ok
unfolding pair_may_stand
returns-in-Ok c = rw c.in-Ok.is none

pub returns-in-Err : goal.returns-in-Err
unfolding pair_may_stand
returns-in-Err c = rw c.in-Err.is c.put_may_stand.ensures
