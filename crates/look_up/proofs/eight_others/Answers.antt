-- `look_up::eight_others` meets its contract. Assumes nothing.
use Rattle.look_up.proofs.Others.{rows-joined}
use Rattle.look_up.proofs.eight_others.Goals as goal

pub returns : goal.returns
returns c = let a = c.args in rw (c.four_others.ensures, c.four_others-2.ensures) (rows-joined a.checkpoints.now a.wanted a.row 4 4)
