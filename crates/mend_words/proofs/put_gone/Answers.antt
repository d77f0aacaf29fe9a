-- `mend_words::put_gone` meets its contract: one behind the other. Assumes nothing.
use Rattle.output.proofs.Writing.{◌then◌}
use Rattle.mend_words.proofs.put_gone.Goals as goal

pub returns : goal.returns
returns c = c.put_line-a.ensures then c.put_gone_words.ensures
