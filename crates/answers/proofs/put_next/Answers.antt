-- `answers::put_next` meets its contract: a run of puts. Assumes nothing.
use Rattle.terms.specs.Ascii.{ascii}
use Rattle.output.proofs.Writing.{◌then◌}
use Rattle.answers.specs.Answers.{next}
use Rattle.answers.proofs.put_next.Goals as goal

pub returns : goal.returns
unfolding ascii next
returns c = c.put_bytes-a.ensures then c.put_counted.ensures
