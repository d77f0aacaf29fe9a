-- `mend_words::put_change` meets its contract, by what becomes of the line. Assumes nothing.
use Rattle.output.proofs.Writing.{none}
use Rattle.mend_words.specs.Told.{the_told_of}
use Rattle.mend_words.proofs.put_change.Goals as goal

pub returns-in-Stays : goal.returns-in-Stays
unfolding the_told_of
returns-in-Stays c = rw c.in-Stays.is none

pub returns-in-Goes : goal.returns-in-Goes
unfolding the_told_of
returns-in-Goes c = rw c.in-Goes.is c.put_gone.ensures

pub returns-in-Recount : goal.returns-in-Recount
unfolding the_told_of
returns-in-Recount c = rw c.in-Recount.is (rw c.spelled.ensures at c.put_recounted.ensures)
