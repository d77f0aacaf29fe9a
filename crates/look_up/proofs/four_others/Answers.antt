-- `look_up::four_others` meets its contract. Assumes nothing.
use Rattle.look_up.proofs.Others.{rows-joined}
use Rattle.look_up.proofs.four_others.Goals as goal

pub returns : goal.returns
returns c = let a = c.args in rw (c.two_others.ensures, c.two_others-2.ensures) (rows-joined a.checkpoints.now a.wanted a.row 2 2)
