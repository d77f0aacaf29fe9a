-- `mend_words::put_past` meets its contract, by the reader's reply. Assumes nothing.
use Rattle.output.proofs.Writing.{◌then◌}
use Rattle.mend_words.specs.Told.{past_told}
use Rattle.mend_words.proofs.put_past.Goals as goal

pub returns-in-Ok : goal.returns-in-Ok
unfolding past_told
returns-in-Ok c = rw c.in-Ok.is c.put_sentence-a.ensures

pub returns-in-Err : goal.returns-in-Err
unfolding past_told
returns-in-Err c = rw c.in-Err.is (c.put_sentence-a.ensures then c.put_fault.ensures)
