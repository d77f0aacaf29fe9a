-- `mend_words::put_recounted` meets its contract: one behind the other. Assumes nothing.
use Rattle.output.proofs.Writing.{◌then◌}
use Rattle.mend_words.proofs.put_recounted.Goals as goal

pub returns : goal.returns
returns c = c.put_line-a.ensures then c.put_counts.ensures
