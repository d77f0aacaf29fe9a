-- `files::put_of` meets its contract: a run of puts. Assumes nothing.
use Rattle.output.proofs.Writing.{◌then◌}
use Rattle.files.proofs.put_of.Goals as goal

pub returns : goal.returns
returns c = c.put_bytes-a.ensures then c.put_bytes.ensures
