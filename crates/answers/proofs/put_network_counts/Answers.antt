-- `answers::put_network_counts` meets its contract: a run of puts. Assumes nothing.
use Rattle.terms.specs.Ascii.{ascii}
use Rattle.output.proofs.Writing.{◌then◌}
use Rattle.answers.specs.Answers.{network_counts}
use Rattle.answers.proofs.put_network_counts.Goals as goal

pub returns : goal.returns
unfolding ascii network_counts
returns c = c.put_counted-a.ensures then c.put_next-b.ensures then c.put_next-d.ensures then c.put_next-e.ensures then c.put_next-f.ensures then c.put_next-g.ensures then c.put_next-h.ensures then c.put_next.ensures
