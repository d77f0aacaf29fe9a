-- `mend_pieces::put_piece` meets its contract. Assumes nothing.
use Rattle.output.proofs.Writing.{none}
use Rattle.mend_pieces.proofs.put_piece.Goals as goal

pub returns-in-Stays : goal.returns-in-Stays
returns-in-Stays c = rw c.in-Stays.is c.put_bytes.ensures

pub returns-in-Goes : goal.returns-in-Goes
returns-in-Goes c = rw c.in-Goes.is none

pub returns-in-Recount : goal.returns-in-Recount
returns-in-Recount c = rw c.in-Recount.is c.put_recounted.ensures
