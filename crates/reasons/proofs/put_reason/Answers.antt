-- `reasons::put_reason` meets its contract. Assumes nothing.
use Rattle.output.proofs.Writing.{same}
use Rattle.reasons.proofs.put_reason.Goals as goal

pub returns : goal.returns
returns c = same c.reason.ensures c.put_bytes.ensures
