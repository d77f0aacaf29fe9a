-- `answers::put_mission_counts` meets its contract: a run of puts. Assumes nothing.
use Rattle.terms.specs.Ascii.{ascii}
use Rattle.output.proofs.Writing.{◌then◌}
use Rattle.answers.specs.Answers.{mission_counts}
use Rattle.answers.proofs.put_mission_counts.Goals as goal

pub returns : goal.returns
unfolding ascii mission_counts
returns c = c.put_next-a.ensures then c.put_next.ensures
