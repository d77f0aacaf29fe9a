-- `scan::is_plain` meets its contract. Assumes nothing.
use Rattle.scan.proofs.Bytes.{plain_flat}
use Rattle.scan.proofs.is_plain.Goals as goal

pub returns : goal.returns
returns c = plain_flat c.args.b
