-- `mend_words::put_nothing` meets its contract: a run of puts. Assumes nothing.
use Rattle.terms.specs.Ascii.{ascii}
use Rattle.output.proofs.Writing.{◌then◌}
use Rattle.mend_words.specs.Told.{nothing_told}
use Rattle.mend_words.proofs.put_nothing.Goals as goal

pub returns : goal.returns
unfolding ascii nothing_told
returns c = c.put_bytes-a.ensures then c.put_bytes.ensures
