-- `yard_check::put_may_stand` meets its contract: the words, on a line of their own. Assumes nothing.
use Rattle.yard_check.specs.Tells.{may_stand}
use Rattle.yard_check.proofs.put_may_stand.Goals as goal

pub returns : goal.returns
unfolding may_stand
returns c = c.put_expected_line.ensures
