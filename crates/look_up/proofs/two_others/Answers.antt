-- `look_up::two_others` meets its contract. Assumes nothing.
use Rattle.look_up.proofs.Others.{two-rows}
use Rattle.look_up.proofs.two_others.Goals as goal

pub returns : goal.returns
returns c = let a = c.args in two-rows a.checkpoints.now a.wanted a.row
