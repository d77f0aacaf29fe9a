-- `mend_passes::stays_right` meets its contract. Assumes nothing.
use Rattle.mend_passes.proofs.stays_right.Goals as goal

pub returns-in-Stays : goal.returns-in-Stays
returns-in-Stays c = rw c.in-Stays.is c.is_exit_right.ensures
