-- `answers::put_pair_accepted` meets its contract: a run of puts. Assumes nothing.
use Rattle.terms.specs.Ascii.{ascii}
use Rattle.output.proofs.Writing.{◌then◌}
use Rattle.answers.proofs.put_pair_accepted.Goals as goal

pub returns : goal.returns
unfolding ascii
returns c = c.put_bytes-a.ensures then c.put_bytes-b.ensures then c.put_bytes-d.ensures then c.put_bytes-e.ensures then c.put_network_counts-f.ensures then c.put_mission_counts-g.ensures then c.put_byte.ensures
